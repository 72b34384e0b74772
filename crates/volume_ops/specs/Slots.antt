-- The slots of one directory below its size: each is tested, in order, and the names are noted.
use Rattle.std.specs.Prelude.{ℕ, ◌-◌, ◌*◌, Bool, ◌||◌, nat_lt, min, if◌then◌else◌, List, [], ◌∷◌, is_some, Option, Some, None, Result, Ok, Err}
use Rattle.std.specs.List.{range_with_len}
use Rattle.byte_fields.specs.Fields.{record_at}
use Rattle.minix_layout.specs.Widths.{slot_size, slots_a_block}
use Rattle.minix_layout.specs.declared.division.Geometry.{Geometry}
use Rattle.minix_layout.specs.declared.slot.Slot.{Slot}
use Rattle.minix_layout.specs.declared.fault.LayoutFault.TheVariants.{BadSlot}
use Rattle.minix_layout.specs.Slots.{slot_of}
use Rattle.tree_model.specs.Maps.{at_name, put_name}
use Rattle.tree_model.specs.Paths.{is_dot}
use Rattle.volume_ops.specs.declared.found.Mapped.{Mapped}
use Rattle.volume_ops.specs.Reads.{Reads, Ret, Read, if_ok}
use Rattle.volume_ops.specs.Places.{table_block, inode_in_block, is_directory, birth_of}
use Rattle.volume_ops.specs.Marks.{is_marked, marked}
use Rattle.volume_ops.specs.Zones.{Fault}

-- the directories that were named so far in the walk, and the names of this directory
pub record SlotScan : Type 0 where
  pub named : List Bool
  pub names : List (List ℕ × ℕ)

-- the slot's inode is none of the volume, or its name stood before in this directory
abbrev pub is_bad_entry : Geometry → Slot → SlotScan → Bool
is_bad_entry g slot s = nat_lt g.inodes slot.inode || is_some (at_name s.names slot.name)

-- a name of a directory, which may have one name only
abbrev pub note_directory : ℕ → Slot → SlotScan → Result SlotScan Fault
note_directory zone slot s =
    if is_marked s.named slot.inode then Err (BadSlot, zone)
    else Ok (record { named = marked s.named slot.inode; names = put_name s.names slot.name (birth_of slot.inode) })

-- a name of another thing
abbrev pub note_other : Slot → SlotScan → SlotScan
note_other slot s = record { named = s.named; names = put_name s.names slot.name (birth_of slot.inode) }

-- a name of a slot in `zone`, of a directory or of another thing
abbrev pub note_name : ℕ → Slot → SlotScan → Bool → Result SlotScan Fault
note_name zone slot s directory = if directory then note_directory zone slot s else Ok (note_other slot s)

-- a slot in use under another name than . and ..; its inode tells whether it names a directory
abbrev pub scan_entry : Geometry → ℕ → Slot → SlotScan → Reads (Result SlotScan Fault)
scan_entry g zone slot s =
    if is_bad_entry g slot s then Ret (Err (BadSlot, zone))
    else Read (table_block g slot.inode)
    (λ body. Ret (note_name zone slot s (is_directory (inode_in_block slot.inode body).mode)))

-- a free slot names nothing, and neither do `.` and `..`
abbrev pub scan_used : Geometry → ℕ → SlotScan → Option Slot → Reads (Result SlotScan Fault)
scan_used g zone s None = Ret (Ok s)
scan_used g zone s (Some slot) = if is_dot slot.name then Ret (Ok s) else scan_entry g zone slot s

-- one slot, of 16 or 32 bytes
abbrev pub scan_slot : Geometry → ℕ → List ℕ → SlotScan → Reads (Result SlotScan Fault)
scan_slot g zone bytes s =
    elim (slot_of g.width bytes) as (λ _. Reads (Result SlotScan Fault))
    [ Err fault ↦ Ret (Err (fault, zone)) | Ok slot ↦ scan_used g zone s slot ]

-- the slots at these places of a block
abbrev pub scan_places : Geometry → ℕ → List ℕ → List ℕ → SlotScan → Reads (Result SlotScan Fault)
scan_places g zone body [] s = Ret (Ok s)
scan_places g zone body (at ∷ ats) s = if_ok (scan_slot g zone (record_at (slot_size g.width) at body) s) (scan_places g zone body ats)

-- a mapped block of a directory with so many slots; those at and past the size are not read
abbrev pub scan_block : Geometry → ℕ → Mapped → SlotScan → Reads (Result SlotScan Fault)
scan_block g slots block s =
    if nat_lt (slots_a_block g.width * block.index) slots
    then Read block.zone (λ body. scan_places g block.zone body (range_with_len 0 (min (slots_a_block g.width) (slots - slots_a_block g.width * block.index))) s)
    else Ret (Ok s)

-- the mapped blocks of a directory in order; a hole is free slots
abbrev pub scan_slots : Geometry → ℕ → List Mapped → SlotScan → Reads (Result SlotScan Fault)
scan_slots g slots [] s = Ret (Ok s)
scan_slots g slots (block ∷ blocks) s = if_ok (scan_block g slots block s) (scan_slots g slots blocks)
