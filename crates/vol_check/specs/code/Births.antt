-- The nodes of a volume by their births, as a table has their places among those that the walk met.
use Rattle.std.specs.Prelude.{◌≡◌, ℕ, ◌-◌, ◌<◌, ◌==◌, Bool, true, false, if◌then◌else◌, List, [], ◌∷◌, length, Option, Some, None, slice_index_or, Result, Ok, Err}
use Rattle.std.specs.List.{slice_get}
use Rattle.std.specs.Option.{option_map}
use Rattle.minix_layout.specs.declared.division.Geometry.{Geometry}
use Rattle.tree_model.specs.declared.node.Node.{Node}
use Rattle.tree_model.specs.declared.node.Node.TheVariants as nodes
use Rattle.tree_model.specs.declared.node.Directory.{Directory}
use Rattle.tree_model.specs.Maps.{at_number}
use Rattle.volume_ops.specs.declared.found.Found.{Found}
use Rattle.volume_ops.specs.declared.found.Found.TheVariants as found
use Rattle.volume_ops.specs.declared.found.FoundNode.{FoundNode}
use Rattle.volume_ops.specs.Volume.{walked, node_of, put_nodes}
use Rattle.volume_ops.specs.VolumeTrees.{IsVolumeTree}
use Rattle.volume_ops.specs.Walk.{Walked}
use Rattle.volume_ops.specs.Zones.{Fault}

-- the nodes that the walk met, in this order
abbrev pub nodes_in : Result Walked Fault → List FoundNode
nodes_in (Ok w) = w.nodes
nodes_in (Err fault) = []

-- the tree of a volume that has no fault
abbrev pub tree_in : Geometry → List (List ℕ) → List (ℕ × Node)
tree_in g blocks = put_nodes blocks (nodes_in (walked g blocks)) []

-- a place counted from 1; 0 is none
abbrev pub at_place : List FoundNode → ℕ → Option FoundNode
at_place ns place = if place == 0 then None else slice_get ns (place - 1)

-- the node with this birth, by the place that the table has for it; None for a birth past the table
abbrev pub found_at : List FoundNode → List ℕ → ℕ → Option FoundNode
found_at ns places birth = at_place ns (slice_index_or places birth 0)

-- the node at a birth after these, where it was `old` before them
abbrev pub last_at : List FoundNode → ℕ → Option FoundNode → Option FoundNode
last_at [] birth old = old
last_at (n ∷ ns) birth old = last_at ns birth (if n.birth == birth then Some n else old)

-- the places of the nodes were noted, in a table of none
abbrev pub HasPlaces : List FoundNode → List ℕ → List ℕ → Type 0
HasPlaces ns old new = (birth : ℕ) → birth < length old → found_at ns new birth ≡ last_at ns birth (found_at ns old birth)

-- the table gives for each birth what stands in the volume's tree
pub record AreBirths (g : Geometry) (blocks : List (List ℕ)) (places : List ℕ) : Type 0 where
  pub some_inode : 0 < g.inodes
  pub stands : IsVolumeTree g blocks (tree_in g blocks)
  pub finds : (birth : ℕ) → option_map (λ n. node_of blocks n.found) (found_at (nodes_in (walked g blocks)) places birth) ≡ at_number (tree_in g blocks) birth

-- a directory, where the node is one
abbrev pub directory_at : Option Node → Option Directory
directory_at (Some (nodes.Directory d)) = Some d
directory_at other = None

-- neither a directory nor a file
abbrev pub is_other : Found → Bool
is_other (found.Other mode) = true
is_other (found.Directory d) = false
is_other (found.File f) = false
