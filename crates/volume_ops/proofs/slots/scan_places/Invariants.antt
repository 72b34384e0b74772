use Rattle.std.proofs.Common.{◌≡◌, ◌-◌}
use Rattle.std.specs.List.{range_with_len}
use Rattle.volume_ops.specs.code.Births.{AreBirths}
use Rattle.volume_ops.specs.Reads.{answer}
use Rattle.volume_ops.specs.Slots.{scan_places}
use Rattle.volume_ops.specs.Volume.{disk_of}
use Rattle.volume_ops.proofs.slots.scan_places.Given as goal

-- the rest from here ends where all from the start does
abbrev pub invariant-loop-at : goal.invariant-loop-at
invariant-loop-at l =
    (answer (disk_of l.disk) (scan_places l.g l.zone l.body (range_with_len l.at (l.count - l.at)) (record { named = l.named; names = l.names }))
    ≡ answer (disk_of l.disk) (scan_places l.g l.zone l.body (range_with_len 0 l.count) (record { named = l.initial.named; names = l.initial.names })))
    × (AreBirths l.g l.initial.names → AreBirths l.g l.names)
