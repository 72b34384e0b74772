use Rattle.std.proofs.Common.{rules}
use Rattle.minix_tables.specs.directories.laws.FirstFree.{room-led, room-kept}
use Rattle.minix_tables.specs.directories.laws.Told.{are_led, are_kept}
use Rattle.minix_tables.proofs.directories.slots.Slots.lead.Goals as goal
use Rattle.minix_tables.proofs.directories.slots.Slots.lead.Goals.{in-Some-item, in_default-item}

pub invariant_of-self-2 : goal.invariant_of-self-2
invariant_of-self-2 c = elim c.match-item.branch [
  | in-Some-item w ↦ rw w.self-inside-is (search (rules, room-led, are_led))
  | in_default-item w ↦ rw w.self-inside-is (search (rules, room-kept, are_kept))
]
