-- The tree of a volume as it changes.
use Rattle.std.specs.Prelude.{ℕ, List, [], ◌∷◌, length, map}
use Rattle.tree_model.specs.declared.node.Node.{Node}
use Rattle.tree_model.specs.declared.node.Node.TheVariants as nodes
use Rattle.tree_model.specs.declared.node.Directory.{Directory}
use Rattle.tree_model.specs.Maps.{put_number}
use Rattle.volume_ops.specs.Volume.{bodies_of}
use Rattle.volume_model.specs.declared.placed.Placed.{Placed}
use Rattle.volume_model.specs.declared.placed.Part.{Part}
use Rattle.volume_model.specs.declared.placed.Part.TheVariants as parts
use Rattle.volume_model.specs.declared.placed.DirectoryPart.{DirectoryPart}
use Rattle.minix_layout.specs.declared.inode.Inode.{Inode}

abbrev pub directory_from : DirectoryPart → Directory
directory_from d = record { parent = d.parent; width = d.width; slots = length d.slots; names = d.names }

-- entries as a map in order, whatever order they had
abbrev pub in_order : {X : Type 0} → List (ℕ × X) → List (ℕ × X)
in_order [] = []
in_order (e ∷ es) = put_number (in_order es) e.0 e.1

-- the blocks of a file stand in the order of their indices
abbrev pub node_from : List (List ℕ) → Inode → Part → Node
node_from blocks i (parts.Directory d) = nodes.Directory (directory_from d)
node_from blocks i (parts.File zones) = nodes.File (record { size = i.size; links = i.links; blocks = in_order (bodies_of blocks zones) })

abbrev pub node_now : List (List ℕ) → Placed → Node
node_now blocks p = node_from blocks p.inode p.part

-- the tree that a volume stands for, by births
unfoldable pub tree_now : List (List ℕ) → List (ℕ × Placed) → List (ℕ × Node)
tree_now blocks placed = map (λ e. (e.0, node_now blocks e.1)) placed
