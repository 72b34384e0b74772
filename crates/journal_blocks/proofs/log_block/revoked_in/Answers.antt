use Rattle.std.proofs.Common.{◌++◌, ◌∷◌, [], List, ℕ, map, sym, ap, ◌∙◌, arith}
use Rattle.std.specs.List.{range_with_len}
use Rattle.std.proofs.lemmas.List.FromFn.{map-range_with_len_more}
use Rattle.journal_blocks.specs.Blocks.{revoked_at}
use Rattle.journal_blocks.proofs.log_block.revoked_in.Goals as goal

pub loop-k-preserved : goal.loop-k-preserved
loop-k-preserved c =
    let b = c.args.bytes.now in
    let k = c.loop-k.k in
    c.in_ok-push.ensures.items
    ∙ (ap (λ (xs : List ℕ). xs ++ c.revoked_at.result ∷ []) c.loop-k.invariant
    ∙ (ap (λ (n : ℕ). map (revoked_at c.args.wide b) (range_with_len 0 k) ++ n ∷ []) c.revoked_at.ensures
    ∙ sym (map-range_with_len_more (revoked_at c.args.wide b) 0 k k (omega arith))))
