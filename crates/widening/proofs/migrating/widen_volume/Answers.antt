use Rattle.std.proofs.Common.{sym, ap, ◌∙◌}
use Rattle.minix_layout.specs.declared.division.Geometry.{Geometry}
use Rattle.widening.proofs.RoomSteps.{wide_already}
use Rattle.widening.proofs.migrating.widen_volume.Goals as goal

pub returns-then-geometry-eq-WIDE-clause-image : goal.returns-then-geometry-eq-WIDE-clause-image
returns-then-geometry-eq-WIDE-clause-image c = wide_already c.args.volume.now c.args.image (sym (ap (λ (g : Geometry). g.width) c.geometry.ensures) ∙ c.if-geometry-eq-WIDE.true)
