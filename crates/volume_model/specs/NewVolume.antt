-- A new volume: its root alone, without names, in the first zone of data.
use Rattle.std.specs.Prelude.{ℕ, List, [], ◌∷◌, codes, replicate, Some}
use Rattle.blk_base.specs.Block.{filled}
use Rattle.minix_layout.specs.declared.division.Geometry.{Geometry}
use Rattle.minix_layout.specs.declared.inode.Inode.{Inode}
use Rattle.minix_layout.specs.declared.slot.Slot.{Slot}
use Rattle.tree_model.specs.declared.node.Node.{Node}
use Rattle.tree_model.specs.declared.node.Node.TheVariants as nodes
use Rattle.tree_model.specs.declared.node.Directory.{Directory}
use Rattle.minix_layout.specs.Inodes.{new_directory_inode}
use Rattle.volume_model.specs.declared.placed.Placed.{Placed}
use Rattle.volume_model.specs.declared.placed.Part.TheVariants as parts
use Rattle.volume_model.specs.Edits.{put_inode, put_slot, edited_all}
use Rattle.volume_model.specs.Touched.{Contents}

-- `.` and `..` of the root, which both lead to inode 1
abbrev pub dot_slot : Slot
dot_slot = record { inode = 1; name = codes "." }

abbrev pub dots_slot : Slot
dots_slot = record { inode = 1; name = codes ".." }

-- a new directory in the first zone of data
abbrev pub root_inode : Geometry → Inode
root_inode g = new_directory_inode g.width g.first

-- the root, which is its own parent
abbrev pub root_placed : Geometry → Placed
root_placed g = record {
  number = 1;
  inode = root_inode g;
  part = parts.Directory (record { parent = 0; width = g.width; names = []; slots = Some dot_slot ∷ Some dots_slot ∷ [] });
}

-- blocks of zeros, with the root's inode and its two slots
abbrev pub new_blocks : Geometry → List (List ℕ)
new_blocks g = edited_all g (replicate g.zones (filled 0)) (put_inode 1 (root_inode g) ∷ put_slot g.first 0 (Some dot_slot) ∷ put_slot g.first 1 (Some dots_slot) ∷ [])

-- the superblock and both maps are still zeros here
abbrev pub new_volume : Geometry → Contents
new_volume g = record { blocks = new_blocks g; nodes = (0, root_placed g) ∷ [] }

-- ---- its tree

abbrev pub root_directory : ℕ → Directory
root_directory width = record { parent = 0; width = width; slots = 2; names = [] }

-- the root alone, with two slots
abbrev pub root_alone : ℕ → List (ℕ × Node)
root_alone width = (0, nodes.Directory (root_directory width)) ∷ []
