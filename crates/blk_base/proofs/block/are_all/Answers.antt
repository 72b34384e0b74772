use Rattle.std.proofs.Common.{◌≡◌, ◌≤◌, ℕ, List, length, take, replicate, sym, ap, ◌∙◌, arith}
use Rattle.std.proofs.lemmas.List.{take_all}
use Rattle.std.proofs.lemmas.Bool.{eqb-true, eq-eqb}
use Rattle.blk_base.specs.Block.{filled}
use Rattle.blk_base.proofs.block.are_all.Goals as goal

full_as : (v : ℕ) (bytes : List ℕ) → bytes ≡ replicate 1024 v → bytes ≡ filled v
unfolding filled
full_as v bytes e = e

as_full : (v : ℕ) (bytes : List ℕ) → bytes ≡ filled v → bytes ≡ replicate 1024 v
unfolding filled
as_full v bytes e = e

pub returns : goal.returns
returns c =
    let bytes = c.args.bytes.now in
    let v = c.args.v in
    let i = c.loop-byte.byte-index in
    let past : length bytes ≤ i = c.loop-byte-test.false in
    let at : i ≡ 1024 = let end = c.loop-byte.auto.byte-index-end in omega (arith, end, past, c.requires) in
    let all : take i bytes ≡ bytes = take_all i bytes past in
    let full : replicate i v ≡ replicate 1024 v = ap (λ (n : ℕ). replicate n v) at in (
      λ e. full_as v bytes (sym all ∙ c.loop-byte.invariant.full (eqb-true _ _ e) ∙ full),
      λ e. eq-eqb _ _ (c.loop-byte.invariant.same (all ∙ as_full v bytes e ∙ sym full)),
    )
