-- Where a slot comes.
use Rattle.std.specs.Prelude.{◌%◌, ◌&&◌, nat_eq, length}
use Rattle.minix_layout.specs.Widths.{slots_a_block}
use Rattle.minix_layout.specs.declared.slot.Slot.{Slot}
use Rattle.minix_tables.specs.directories.Slots.{room, with_slot}
use Rattle.volume_model.specs.declared.placed.DirectoryPart.{DirectoryPart}
use Rattle.volume_names.specs.declared.directories.NewSlot.{NewSlot}

-- at the first free place or behind the last one, where it may begin a block of the directory
abbrev pub new_slot : DirectoryPart → Slot → NewSlot
new_slot d s = record {
  at = room d.slots;
  begins = nat_eq (room d.slots) (length d.slots) && nat_eq (length d.slots % slots_a_block d.width) 0;
  slots = length (with_slot d.slots (room d.slots) s);
}
