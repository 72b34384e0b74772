use Rattle.std.proofs.Common.{◌≡◌, ◌↔◌, true, subst, sym}
use Rattle.volume_ops.specs.declared.volume.Volume.TheInside.{Inside}
use Rattle.volume_ops.specs.Faultless.{IsUsed}
use Rattle.volume_ops.specs.Marks.{is_marked}
use Rattle.volume_ops.proofs.WalkTests.{walked_used}
use Rattle.volume_ops.proofs.volume.Volume.uses_zone.Goals as goal

pub returns : goal.returns
returns c =
    let law = walked_used c.self.inside.geometry c.self.inside.disk c.self.inside.found c.self.invariant.0.some_inode c.self.invariant.2 c.args.zone in
    rw (← c.self.view_is, c.is_marked.ensures, c.from.ensures)
    (subst (λ (v : Inside). (is_marked v.found.zones c.args.zone ≡ true) ↔ IsUsed c.self.inside.geometry c.self.inside.disk c.args.zone) (sym c.self-inside.view_is) law)
