-- The tree of a volume, and its metadata.
use Rattle.std.specs.Prelude.{◌≡◌, ℕ, List, [], ◌∷◌, map, slice_index_or, Result, Ok, Err}
use Rattle.blk_base.specs.Block.{filled}
use Rattle.minix_layout.specs.declared.division.Geometry.{Geometry}
use Rattle.tree_model.specs.declared.node.Node.{Node}
use Rattle.tree_model.specs.declared.node.Node.TheVariants as nodes
use Rattle.tree_model.specs.Maps.{put_number}
use Rattle.volume_ops.specs.declared.found.Mapped.{Mapped}
use Rattle.volume_ops.specs.declared.found.Found.{Found}
use Rattle.volume_ops.specs.declared.found.Found.TheVariants as found
use Rattle.volume_ops.specs.declared.found.FoundNode.{FoundNode}
use Rattle.volume_ops.specs.declared.walk_fault.WalkFault.{WalkFault}
use Rattle.volume_ops.specs.declared.walk_fault.WalkFault.TheVariants as walk_faults
use Rattle.volume_ops.specs.declared.fault.VolumeFault.{VolumeFault}
use Rattle.volume_ops.specs.declared.fault.VolumeFault.TheVariants as faults
use Rattle.volume_ops.specs.Reads.{answer, blocks_read}
use Rattle.volume_ops.specs.Zones.{Fault}
use Rattle.volume_ops.specs.Walk.{Walked, walk_volume}

-- a volume: how it is divided, and its blocks
pub record VolumeState : Type 0 where
  pub geometry : Geometry
  pub blocks : List (List ℕ)

-- the blocks as a disk, which has zeros behind them
abbrev pub disk_of : List (List ℕ) → ℕ → List ℕ
disk_of blocks block = slice_index_or blocks block (filled 0)

-- what the walk finds, or its first fault
unfoldable pub walked : Geometry → List (List ℕ) → Result Walked Fault
walked g blocks = answer (disk_of blocks) (walk_volume g)

-- The metadata of a volume: the blocks that the walk reads.
abbrev pub metadata : Geometry → List (List ℕ) → List ℕ
metadata g blocks = blocks_read (disk_of blocks) (walk_volume g)

-- the bodies of mapped blocks
abbrev pub bodies_of : List (List ℕ) → List Mapped → List (ℕ × List ℕ)
bodies_of blocks mapped = map (λ m. (m.index, disk_of blocks m.zone)) mapped

-- a node with the bodies of its file
abbrev pub node_of : List (List ℕ) → Found → Node
node_of blocks (found.Directory d) = nodes.Directory d
node_of blocks (found.File f) = nodes.File (record { size = f.size; links = f.links; blocks = bodies_of blocks f.zones })
node_of blocks (found.Other mode) = nodes.Other mode

-- nodes by their births
abbrev pub put_nodes : List (List ℕ) → List FoundNode → List (ℕ × Node) → List (ℕ × Node)
put_nodes blocks [] tree = tree
put_nodes blocks (n ∷ ns) tree = put_nodes blocks ns (put_number tree n.birth (node_of blocks n.found))

-- the tree of what the walk found, or its fault
abbrev pub tree_found : List (List ℕ) → Result Walked Fault → Result (List (ℕ × Node)) Fault
tree_found blocks (Ok w) = Ok (put_nodes blocks w.nodes [])
tree_found blocks (Err fault) = Err fault

-- the tree of a volume, or its first fault
abbrev pub tree_of : Geometry → List (List ℕ) → Result (List (ℕ × Node)) Fault
tree_of g blocks = tree_found blocks (walked g blocks)

-- so by the walk's own faults; want of memory has no cause in the blocks
abbrev pub IsTold : {A : Type 0} → Result A Fault → WalkFault → Type 0
IsTold r (walk_faults.Layout fault block) = r ≡ Err (fault, block)
IsTold r walk_faults.NoMemory = Unit {0}

-- the first fault of the walk; reading and want of memory have no cause in the blocks
abbrev pub IsFaultOf : Geometry → List (List ℕ) → VolumeFault → Type 0
IsFaultOf g blocks (faults.Layout fault block) = walked g blocks ≡ Err (fault, block)
IsFaultOf g blocks other = Unit {0}
