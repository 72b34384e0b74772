use Rattle.std.proofs.Common.{◌≡◌, ◌+◌, ◌++◌, ◌∷◌, [], sym, ap, ap₂, ◌∙◌, append_assoc, arith}
use Rattle.std.proofs.lemmas.List.FromFn.{map-range_with_len_more}
use Rattle.wal_store.specs.calls.Calls.{fill_call}
use Rattle.wal_store.proofs.calls.calls.put_fills.Goals as goal

pub loop-j-preserved : goal.loop-j-preserved
loop-j-preserved c =
    let j = c.loop-j.j in
    let on : 0 + j ≡ j = omega arith in
    c.in_ok-push.ensures
    ∙ ap₂ (λ xs x. xs ++ x ∷ []) c.loop-j.invariant c.in_ok-fill_call.ensures
    ∙ append_assoc c.args.calls.now _ (fill_call c.args.room j ∷ [])
    ∙ ap (λ xs. c.args.calls.now ++ xs) (sym (map-range_with_len_more (fill_call c.args.room) 0 j j on))
