use Rattle.std.proofs.Common.{ap, ◌∙◌, sym, refl, not, ◌&&◌}
use Rattle.widening.proofs.FreeSteps.{is_used, is_free_by}
use Rattle.widening.proofs.zones.is_free.Goals as goal

pub returns-then-not-used : goal.returns-then-not-used
returns-then-not-used c all walks =
    let v = c.args.volume.now in
    is_free_by v.geometry v.blocks all.zones c.args.zone c.uses_zone-used.result c.read_bit-marked.result
    (is_used v.geometry v.blocks c.args.zone c.uses_zone-used.result c.disk.ensures.sound.some_inode c.uses_zone-used.ensures all walks)
    (rw (c.read_bit-marked.ensures, c.body.ensures, c.disk.ensures.blocks, c.zone_bit-place.ensures.place, c.geometry.ensures) refl)
    _ (ap (λ b. not b && not c.read_bit-marked.result) (sym c.if-not-used.true))

pub returns-else-not-used : goal.returns-else-not-used
returns-else-not-used c all walks =
    let v = c.args.volume.now in
    is_free_by v.geometry v.blocks all.zones c.args.zone c.uses_zone-used.result c.read_bit-marked.result
    (is_used v.geometry v.blocks c.args.zone c.uses_zone-used.result c.disk.ensures.sound.some_inode c.uses_zone-used.ensures all walks)
    (rw (c.read_bit-marked.ensures, c.body.ensures, c.disk.ensures.blocks, c.zone_bit-place.ensures.place, c.geometry.ensures) refl)
    _ (ap not c.if-not-used.false ∙ ap (λ b. not b && not c.read_bit-marked.result) (sym c.if-not-used.false))
