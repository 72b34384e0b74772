use Rattle.std.proofs.Common.{◌≡◌, ◌+◌, ◌≤◌, drop}
use Rattle.minix_tables.specs.directories.Slots.{room}
use Rattle.minix_tables.proofs.directories.slots.free_from.Given as goal

abbrev pub invariant-loop-at : goal.invariant-loop-at
invariant-loop-at l = (l.from ≤ l.at) × (l.at + room (drop l.at l.slots) ≡ l.from + room (drop l.from l.slots))
