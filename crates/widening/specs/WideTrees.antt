-- A widened image, and the tree of its volume.
use Rattle.std.specs.Prelude.{◌≡◌, ℕ, ◌+◌, List, length, map, Ok}
use Rattle.tree_model.specs.declared.node.Node.{Node}
use Rattle.tree_model.specs.declared.node.Node.TheVariants as nodes
use Rattle.tree_model.specs.declared.node.Directory.{Directory}
use Rattle.volume_ops.specs.Volume.{VolumeState, disk_of}
use Rattle.volume_model.specs.ImageNodes.{IsImage}
use Rattle.mount_make.specs.Images.{mounted}
use Rattle.widening.specs.Widened.{widened_image}

-- the same directory, for names of 30 bytes: its slots are `.`, `..` and one for each name
abbrev pub wide_directory : Directory → Directory
wide_directory d = record { parent = d.parent; width = 30; slots = 2 + length d.names; names = d.names }

-- files and other nodes stay
abbrev pub wide_node : Node → Node
wide_node (nodes.Directory d) = nodes.Directory (wide_directory d)
wide_node (nodes.File f) = nodes.File f
wide_node (nodes.Other mode) = nodes.Other mode

abbrev pub wide_tree : List (ℕ × Node) → List (ℕ × Node)
wide_tree tree = map (λ e. (e.0, wide_node e.1)) tree

-- The first image is mounted as this volume, and is widened to the second. The blocks of the volume have 1,024 bytes, and so
-- has the first block of a journal.
pub record IsWidening (blocks image : List (List ℕ)) (v : VolumeState) : Type 0 where
  pub mounts : mounted blocks ≡ Ok v
  pub widens : widened_image blocks ≡ Ok image
  pub volume : IsImage v.geometry v.blocks
  pub journal : length (disk_of blocks v.geometry.zones) ≡ 1024
