use Rattle.std.proofs.Common.{rules}
use Rattle.minix_tables.specs.directories.laws.Slots.{room-within}
use Rattle.minix_tables.specs.directories.laws.FirstFree.{room-reserved}
use Rattle.minix_tables.specs.directories.laws.Told.{are_free}
use Rattle.minix_tables.proofs.directories.slots.Slots.reserve.Goals as goal

pub invariant_of-self : goal.invariant_of-self
invariant_of-self c = search (rules, room-reserved, room-within, are_free)
