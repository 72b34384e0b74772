use Rattle.std.proofs.Common.{◌≡◌, ◌+◌, ◌-◌, ◌≤◌}
use Rattle.volume_model.specs.Volume.{zone_in}
use Rattle.volume_in_use.specs.bytes.code.Wants.{group_holes}
use Rattle.volume_in_use.proofs.bytes.holes.group_holes.Given as goal

abbrev pub invariant-loop-group : goal.invariant-loop-group
invariant-loop-group l =
    (l.holes + group_holes (λ x. zone_in l.blocks l.inode x) l.first l.end l.group (512 - l.group) ≡ group_holes (λ x. zone_in l.blocks l.inode x) l.first l.end 0 512)
    × (l.holes ≤ l.group)
