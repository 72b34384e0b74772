use Rattle.std.proofs.Common.{◌≡◌, ◌+◌, ◌-◌, ◌≤◌, length, vec_capacity}
use Rattle.std.specs.List.{range_with_len}
use Rattle.volume_model.specs.Holes.{IsRising, with_holes}
use Rattle.volume_model.proofs.file_zones.put_holes.Given as goal

abbrev pub invariant-loop-index : goal.invariant-loop-index
invariant-loop-index l =
    IsRising l.items.items
    × (length l.items.items + (l.index-end - l.index) ≤ vec_capacity l.items)
    × (with_holes l.items.items (range_with_len l.index (l.index-end - l.index)) ≡ with_holes l.initial.items.items (range_with_len l.first l.count))
