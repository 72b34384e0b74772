use Rattle.std.proofs.Common.{◌≡◌, ◌+◌, ◌++◌, ◌∷◌, [], sym, ap, ap₂, ◌∙◌, append_assoc, arith}
use Rattle.std.proofs.lemmas.List.FromFn.{map-range_with_len_more}
use Rattle.blk_base.specs.Image.{bytes_at}
use Rattle.blk_base.proofs.image.Image.push_blocks.Goals as goal

pub loop-b-preserved : goal.loop-b-preserved
loop-b-preserved c = record {
  pushed =
      let b = c.loop-b.b in
      let on : 0 + b ≡ b = omega arith in
      c.in_ok-push.ensures.pushed
      ∙ ap₂ (λ xs x. xs ++ x ∷ []) c.loop-b.invariant.pushed (c.of.ensures ∙ c.block_at.ensures.value)
      ∙ append_assoc c.args.self.now _ (bytes_at c.args.bytes.now b ∷ [])
      ∙ ap (λ xs. c.args.self.now ++ xs) (sym (map-range_with_len_more (bytes_at c.args.bytes.now) 0 b b on));
}
