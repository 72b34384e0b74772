use Rattle.std.proofs.Common.{◌+◌, ◌*◌, ℕ, List, slice_set, ap, ◌∙◌, arith}
use Rattle.mount_make.specs.Made.{map_byte}
use Rattle.mount_make.proofs.MapBytes.{map-none, map-all, filled-next}
use Rattle.mount_make.proofs.volume_block.map_block.Goals as goal

pub loop-k-init : goal.loop-k-init
loop-k-init c = c.fill-block.ensures ∙ map-none (λ k. map_byte c.args.last (c.args.from + 8 * k))

pub loop-k-preserved : goal.loop-k-preserved
loop-k-preserved c =
    let k = c.loop-k.k in
    let low = c.loop-k-test.true in
    c.set.ensures
    ∙ (ap (λ (v : ℕ). slice_set c.loop-k.block k v) c.map_byte.ensures
    ∙ (ap (λ (b : List ℕ). slice_set b k (map_byte c.args.last (c.args.from + 8 * k))) c.loop-k.invariant
    ∙ filled-next (λ k. map_byte c.args.last (c.args.from + 8 * k)) 1024 k (omega (arith, low))))

pub returns : goal.returns
returns c =
    let high = c.loop-k-test.false in
    let low = c.loop-k.auto.k-end in
    c.loop-k.invariant ∙ map-all c.args.last c.args.from c.loop-k.k (omega (arith, high)) (omega (arith, low))
