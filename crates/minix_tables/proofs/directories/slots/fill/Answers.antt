use Rattle.std.proofs.Common.{rules, ◌+◌, refl}
use Rattle.minix_tables.specs.directories.laws.Slots.{room-within}
use Rattle.minix_tables.specs.directories.laws.FirstFree.{room-taken_at, room-pushed}
use Rattle.minix_tables.proofs.directories.slots.fill.Goals as goal

pub returns-then-at-len-clause-room : goal.returns-then-at-len-clause-room
returns-then-at-len-clause-room c = room-taken_at c.args.items.now.items c.args.slot c.args.at (c.args.at + 1) c.free_from.result c.requires (search rules) refl (search rules)

pub returns-clause-room : goal.returns-clause-room
returns-clause-room c = search (rules, room-pushed, room-within)
