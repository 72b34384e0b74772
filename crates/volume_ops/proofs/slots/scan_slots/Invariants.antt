use Rattle.std.proofs.Common.{◌≡◌, [], drop}
use Rattle.volume_ops.specs.code.Births.{AreBirths}
use Rattle.volume_ops.specs.Reads.{answer}
use Rattle.volume_ops.specs.Slots.{scan_slots}
use Rattle.volume_ops.specs.Volume.{disk_of}
use Rattle.volume_ops.proofs.slots.scan_slots.Given as goal

-- the rest from here ends where all from the start does
abbrev pub invariant-loop-block : goal.invariant-loop-block
invariant-loop-block l =
    (answer (disk_of l.disk) (scan_slots l.g l.slots (drop l.block-index l.blocks) (record { named = l.named; names = l.names }))
    ≡ answer (disk_of l.disk) (scan_slots l.g l.slots l.blocks (record { named = l.initial.named; names = [] })))
    × AreBirths l.g l.names
