use Rattle.std.proofs.Common.{ℕ, ◌<◌, ◌↔◌}
use Rattle.blk_base.specs.Members.{In}
use Rattle.volume_ops.specs.Faultless.{IsUsed}
use Rattle.volume_calls.proofs.opened.used.used_zones.Given as goal

abbrev pub invariant-loop-zone : goal.invariant-loop-zone
invariant-loop-zone l =
    ((z : ℕ) → In z l.used.items → z < l.zone)
    × ((z : ℕ) → z < l.zone → In z l.used.items ↔ IsUsed l.volume.geometry l.volume.blocks z)
