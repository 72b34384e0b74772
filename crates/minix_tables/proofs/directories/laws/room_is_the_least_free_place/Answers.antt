use Rattle.minix_tables.specs.directories.laws.Slots.{room-within}
use Rattle.minix_tables.specs.directories.laws.Edited.{free_room, least_room, reserved_room, reserved_same, reserved_slots, reserved_undone}
use Rattle.minix_tables.proofs.directories.laws.room_is_the_least_free_place.Goals as goal

pub returns : goal.returns
returns c = record { within = room-within; free = free_room; least = least_room; reserved = reserved_room; same_room = reserved_same; same_slots = reserved_slots; undone = reserved_undone }
