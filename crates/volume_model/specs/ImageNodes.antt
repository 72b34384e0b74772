-- The nodes of an image that was read: births are the numbers of inodes, and the root's is 0.
use Rattle.std.specs.Prelude.{◌≡◌, ℕ, ◌<◌, List, [], length, map, slice_index}
use Rattle.std.specs.Map.{keys_of}
use Rattle.minix_layout.specs.declared.division.Geometry.{Geometry}
use Rattle.minix_layout.specs.declared.inode.Inode.{Inode}
use Rattle.tree_model.specs.declared.node.Node.{Node}
use Rattle.tree_model.specs.declared.node.Node.TheVariants as nodes
use Rattle.volume_ops.specs.declared.found.Found.{Found}
use Rattle.volume_ops.specs.declared.found.Found.TheVariants as found
use Rattle.volume_ops.specs.Places.{inode_of_birth}
use Rattle.volume_ops.specs.Volume.{disk_of}
use Rattle.volume_ops.specs.VolumeFields.{zone_behind}
use Rattle.volume_model.specs.declared.placed.Placed.{Placed}
use Rattle.volume_model.specs.declared.placed.Part.{Part}
use Rattle.volume_model.specs.declared.placed.Part.TheVariants as parts
use Rattle.volume_model.specs.Volume.{IsWhole}
use Rattle.volume_model.specs.Touched.{Contents}
use Rattle.volume_model.specs.Plain.{inode_born, slots_in}

-- as many blocks as zones, each of 1,024 bytes
pub record IsImage (g : Geometry) (blocks : List (List ℕ)) : Type 0 where
  pub whole : IsWhole blocks
  pub size : length blocks ≡ g.zones
  pub bytes : (b k : ℕ) → slice_index (disk_of blocks b) k < 256

-- the slots of a directory, and the zones of the mapped blocks of a file
abbrev pub part_in : Geometry → List (List ℕ) → Inode → Node → Part
part_in g blocks i (nodes.Directory d) = parts.Directory (record { parent = d.parent; width = d.width; names = d.names; slots = slots_in g blocks i })
part_in g blocks i (nodes.File f) = parts.File (map (λ k. record { index = k; zone = zone_behind blocks i k }) (keys_of f.blocks))
part_in g blocks i (nodes.Other mode) = parts.File []

-- the same of what the walk found
abbrev pub part_found : Geometry → List (List ℕ) → Inode → Found → Part
part_found g blocks i (found.Directory d) = parts.Directory (record { parent = d.parent; width = d.width; names = d.names; slots = slots_in g blocks i })
part_found g blocks i (found.File f) = parts.File f.zones
part_found g blocks i (found.Other mode) = parts.File []

-- the node with this birth, as the blocks of an image have it
abbrev pub placed_in : Geometry → List (List ℕ) → ℕ → Node → Placed
placed_in g blocks birth node = record {
  number = inode_of_birth birth;
  inode = inode_born g blocks birth;
  part = part_in g blocks (inode_born g blocks birth) node;
}

-- each node of the image's tree, with its inode and what its blocks say
unfoldable pub contents_in : Geometry → List (List ℕ) → List (ℕ × Node) → Contents
contents_in g blocks tree = record { blocks = blocks; nodes = map (λ e. (e.0, placed_in g blocks e.0 e.1)) tree }
