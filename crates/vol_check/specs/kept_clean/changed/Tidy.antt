-- Volumes whose tables and directories say nothing of what is not there.
use Rattle.std.specs.Prelude.{◌≡◌, ◌≢◌, ◌/◌, ◌<◌, ◌≤◌, ℕ, length, Some, None}
use Rattle.minix_layout.specs.Inodes.{zero_inode}
use Rattle.minix_layout.specs.Widths.{slots_a_block}
use Rattle.minix_layout.specs.declared.division.Geometry.{Geometry}
use Rattle.tree_model.specs.Maps.{at_number}
use Rattle.volume_ops.specs.VolumeFields.{inode_at}
use Rattle.volume_model.specs.declared.placed.DirectoryPart.{DirectoryPart}
use Rattle.volume_model.specs.declared.placed.Part.TheVariants as parts
use Rattle.volume_model.specs.declared.placed.Placed.{Placed}
use Rattle.volume_model.specs.Touched.{Contents}
use Rattle.volume_model.specs.Volume.{block, zone_in, HasSlot}
use Rattle.volume_steps.specs.UsedInodes.{IsInodeUsed}
use Rattle.minix_tables.specs.zones.Zones.{Zones}
use Rattle.vol_check.specs.kept_clean.Marked.{IsMarked}

-- The maps mark what is in use, an inode that no node has is all zeros, and behind the last slot of a directory each slot
-- of its blocks is free.
pub record IsTidy (g : Geometry) (c : Contents) (zones : Zones) : Type 0 where
  pub marked : IsMarked g c zones
  pub unused : (number : ℕ) → 0 < number → number ≤ g.inodes → (IsInodeUsed c.nodes number → ⊥) → inode_at g c.blocks number ≡ zero_inode
  pub behind : (birth : ℕ) (p : Placed) (d : DirectoryPart) (k : ℕ) → at_number c.nodes birth ≡ Some p → p.part ≡ parts.Directory d → length d.slots ≤ k →
      zone_in c.blocks p.inode (block (k / slots_a_block g.width)) ≢ 0 → HasSlot g c.blocks p.inode k None
