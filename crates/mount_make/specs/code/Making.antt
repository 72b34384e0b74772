-- An image that is filled block by block, and the blocks of a new root.
use Rattle.std.specs.Prelude.{◌≡◌, ℕ, ◌<◌, ◌≤◌, List, length, slice_get, Some}
use Rattle.blk_base.specs.Block.{filled}
use Rattle.byte_fields.specs.Fields.{put_record}
use Rattle.minix_layout.specs.declared.division.Geometry.{Geometry}
use Rattle.minix_layout.specs.Inodes.{inode_bytes}
use Rattle.minix_layout.specs.Widths.{slot_size}
use Rattle.minix_layout.specs.Slots.{slot_bytes}
use Rattle.volume_model.specs.NewVolume.{dot_slot, dots_slot, root_inode}

-- the first n blocks are written, and the others as before
pub record IsFilled (body : ℕ → List ℕ) (n : ℕ) (old new : List (List ℕ)) : Type 0 where
  pub size : length new ≡ length old
  pub filled : (b : ℕ) → b < n → slice_get new b ≡ Some (body b)
  pub others : (b : ℕ) → n ≤ b → slice_get new b ≡ slice_get old b

-- the first block of the table, with the root's inode, and the root's zone, with its two slots
unfoldable pub root_table : Geometry → List ℕ
root_table g = put_record 32 0 (inode_bytes (root_inode g)) (filled 0)

unfoldable pub root_zone : Geometry → List ℕ
root_zone g = put_record (slot_size g.width) 1 (slot_bytes g.width (Some dots_slot)) (put_record (slot_size g.width) 0 (slot_bytes g.width (Some dot_slot)) (filled 0))
