-- Single writes of metadata: an inode, a slot of a directory, a bit of a map.
use Rattle.std.specs.Prelude.{ℕ, ◌+◌, ◌-◌, ◌*◌, ◌/◌, ◌%◌, Bool, List, [], ◌∷◌, slice_set, map, Option}
use Rattle.byte_fields.specs.Fields.{put_record, put, put_bytes, zeros}
use Rattle.byte_fields.specs.Fields.Order.{little}
use Rattle.minix_layout.specs.Widths.{slot_size}
use Rattle.minix_layout.specs.declared.division.Geometry.{Geometry}
use Rattle.minix_layout.specs.declared.inode.Inode.{Inode}
use Rattle.minix_layout.specs.declared.slot.Slot.{Slot}
use Rattle.minix_layout.specs.Bits.{put_bit}
use Rattle.minix_layout.specs.Inodes.{inode_bytes}
use Rattle.minix_layout.specs.Slots.{slot_bytes}
use Rattle.volume_ops.specs.Places.{table_block}
use Rattle.volume_ops.specs.Volume.{disk_of}

-- One write. A bit is that of a map which begins at block `map`.
pub data Edit : Type 0 where
  put_inode : ℕ → Inode → Edit
  put_slot : ℕ → ℕ → Option Slot → Edit
  set_bit : ℕ → ℕ → Bool → Edit
  put_entry : ℕ → ℕ → ℕ → Edit
  clear_from : ℕ → ℕ → Edit
  put_body : ℕ → List ℕ → Edit

-- the block that a write touches
abbrev pub touched_by : Geometry → Edit → ℕ
touched_by g (put_inode number inode) = table_block g number
touched_by g (put_slot zone at slot) = zone
touched_by g (set_bit first number value) = first + number / 8192
touched_by g (put_entry zone at number) = zone
touched_by g (clear_from zone at) = zone
touched_by g (put_body zone content) = zone

-- the bytes of that block afterwards
abbrev pub body_after : Geometry → Edit → List ℕ → List ℕ
body_after g (put_inode number inode) body = put_record 32 ((number - 1) % 32) (inode_bytes inode) body
body_after g (put_slot zone at slot) body = put_record (slot_size g.width) at (slot_bytes g.width slot) body
body_after g (set_bit first number value) body = put_bit body (number % 8192) value
body_after g (put_entry zone at number) body = put little 2 (2 * at) number body
body_after g (clear_from zone at) body = put_bytes (2 * at) (zeros (1024 - 2 * at)) body
body_after g (put_body zone content) body = content

unfoldable pub edited : Geometry → List (List ℕ) → Edit → List (List ℕ)
edited g blocks e = slice_set blocks (touched_by g e) (body_after g e (disk_of blocks (touched_by g e)))

-- writes one after the other
abbrev pub edited_all : Geometry → List (List ℕ) → List Edit → List (List ℕ)
edited_all g blocks [] = blocks
edited_all g blocks (e ∷ es) = edited_all g (edited g blocks e) es

-- one block for each write, in order
abbrev pub touched_by_all : Geometry → List Edit → List ℕ
touched_by_all g es = map (touched_by g) es
