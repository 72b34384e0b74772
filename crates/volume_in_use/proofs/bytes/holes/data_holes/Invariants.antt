use Rattle.std.proofs.Common.{◌≡◌, ◌+◌, ◌≤◌}
use Rattle.volume_model.specs.Volume.{zone_in}
use Rattle.volume_in_use.specs.bytes.code.Wants.{data_holes}
use Rattle.volume_in_use.proofs.bytes.holes.data_holes.Given as goal

abbrev pub invariant-loop-index : goal.invariant-loop-index
invariant-loop-index l =
    (l.holes + data_holes (λ x. zone_in l.blocks l.inode x) l.index l.end ≡ data_holes (λ x. zone_in l.blocks l.inode x) l.first l.end)
    × (l.holes + l.first ≤ l.index) × (l.index ≤ l.end)
