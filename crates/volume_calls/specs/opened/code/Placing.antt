-- The nodes that a walk found, with their places.
use Rattle.std.specs.Prelude.{ℕ, ◌^◌, ◌<◌, List, [], ◌∷◌}
use Rattle.minix_layout.specs.declared.division.Geometry.{Geometry}
use Rattle.tree_model.specs.Maps.{put_number}
use Rattle.volume_ops.specs.declared.found.Found.{Found}
use Rattle.volume_ops.specs.declared.found.Found.TheVariants as found
use Rattle.volume_ops.specs.declared.found.FoundNode.{FoundNode}
use Rattle.volume_ops.specs.Places.{inode_of_birth}
use Rattle.volume_model.specs.declared.placed.Placed.{Placed}
use Rattle.volume_model.specs.ImageNodes.{part_found}
use Rattle.volume_model.specs.Plain.{inode_born}
use Rattle.volume_model.specs.Volume.{IsRising}

-- a node with its inode, and its zones or slots
abbrev pub placed_found : Geometry → List (List ℕ) → FoundNode → Placed
placed_found g blocks n = record {
  number = inode_of_birth n.birth;
  inode = inode_born g blocks n.birth;
  part = part_found g blocks (inode_born g blocks n.birth) n.found;
}

-- what is made of each node, by births
abbrev pub put_all : {X : Type 0} → (FoundNode → X) → List FoundNode → List (ℕ × X) → List (ℕ × X)
put_all f [] entries = entries
put_all f (n ∷ ns) entries = put_all f ns (put_number entries n.birth (f n))

-- the zones of a file stand in order
abbrev pub HasOrder : Found → Type 0
HasOrder (found.File f) = IsRising f.zones
HasOrder other = Unit {0}

-- a node of a volume that can be opened
pub record IsNodeFound (n : FoundNode) : Type 0 where
  pub fits : n.birth < 2 ^ 16
  pub order : HasOrder n.found
