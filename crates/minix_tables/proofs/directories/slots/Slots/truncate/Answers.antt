use Rattle.std.proofs.Common.{rules}
use Rattle.minix_tables.specs.directories.laws.FirstFree.{room-cut, room-left}
use Rattle.minix_tables.proofs.directories.slots.Slots.truncate.Goals as goal

pub invariant_of-self : goal.invariant_of-self
invariant_of-self c = search (rules, room-cut)

pub invariant_of-self-else-len-self : goal.invariant_of-self-else-len-self
invariant_of-self-else-len-self c = search (rules, room-left)
