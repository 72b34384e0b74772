-- Where an inode has its zones, and in which order their numbers are tested.
use Rattle.std.specs.Prelude.{ℕ, ◌+◌, ◌-◌, ◌*◌, ◌/◌, ◌%◌, nat_lt, if◌then◌else◌, List, slice_index}
use Rattle.minix_layout.specs.declared.inode.Inode.{Inode}
use Rattle.minix_tables.specs.inodes.Map.{entry_behind}
use Rattle.volume_ops.specs.Places.{zone_number}
use Rattle.volume_ops.specs.Volume.{disk_of}
use Rattle.volume_ops.specs.VolumeFields.{zone_behind}

-- where an inode has a zone: a block of its file, the indirect zone with the numbers of 512 blocks, and the
-- doubly indirect zone with the numbers of 512 inner zones, each with the numbers of 512 blocks
pub data ZonePlace : Type 0 where
  block : ℕ → ZonePlace
  indirect : ZonePlace
  double : ZonePlace
  inner : ℕ → ZonePlace

-- entry k of a zone of numbers; there is none where the zone is a hole
abbrev pub entry_of : List (List ℕ) → ℕ → ℕ → ℕ
entry_of blocks zone k = entry_behind (λ zone at. zone_number (disk_of blocks zone) at) zone k

-- the zone there, 0 for none
abbrev pub zone_in : List (List ℕ) → Inode → ZonePlace → ℕ
zone_in blocks i (block index) = zone_behind blocks i index
zone_in blocks i indirect = slice_index i.zones 7
zone_in blocks i double = slice_index i.zones 8
zone_in blocks i (inner k) = if nat_lt k 512 then entry_of blocks (slice_index i.zones 8) k else 0

-- the block that holds the number of the zone; the inode stands in block `table`
abbrev pub pointer_block_in : List (List ℕ) → ℕ → Inode → ZonePlace → ℕ
pointer_block_in blocks table i (block index) =
    if nat_lt index 7 then table
    else if nat_lt index 519 then slice_index i.zones 7
    else entry_of blocks (slice_index i.zones 8) ((index - 519) / 512)
pointer_block_in blocks table i indirect = table
pointer_block_in blocks table i double = table
pointer_block_in blocks table i (inner k) = slice_index i.zones 8

-- How many numbers are tested before this one: the nine of the inode in order, and the entries of a zone of
-- numbers right after its own number.
abbrev pub rank : ZonePlace → ℕ
rank (block index) =
    if nat_lt index 7 then index
    else if nat_lt index 519 then index + 1
    else 522 + 513 * ((index - 519) / 512) + (index - 519) % 512
rank indirect = 7
rank double = 520
rank (inner k) = 521 + 513 * k
