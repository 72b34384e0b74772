-- One directory after the other, with the image and the free zones that are left.
use Rattle.std.specs.Prelude.{ℕ, ◌-◌, ◌^◌, ◌<◌, ◌||◌, nat_lt, true, false, if◌then◌else◌, List, [], ◌∷◌, ◌++◌, take, drop, length, Result, Ok, Err}
use Rattle.std.specs.List.{All}
use Rattle.minix_layout.specs.declared.division.Geometry.{Geometry}
use Rattle.minix_layout.specs.declared.inode.Inode.{Inode}
use Rattle.minix_layout.specs.declared.slot.Slot.{Slot}
use Rattle.tree_model.specs.declared.node.Node.{Node}
use Rattle.tree_model.specs.declared.node.Node.TheVariants as nodes
use Rattle.tree_model.specs.declared.node.Directory.{Directory}
use Rattle.volume_ops.specs.Places.{inode_of_birth}
use Rattle.volume_ops.specs.VolumeFields.{inode_at}
use Rattle.volume_model.specs.Edits.{Edit, put_inode, edited_all}
use Rattle.widening.specs.declared.fault.WidenFault.{WidenFault}
use Rattle.widening.specs.declared.fault.WidenFault.TheVariants as faults
use Rattle.widening.specs.Directories.{zones_needed, all_needed, indirect_of, kept_by, own_zones, bit_edits, slot_edits, number_edits, wide_inode, edits_of, left_by}

-- the image as it is written, and the zones that are still free
pub record Widening : Type 0 where
  pub image : List (List ℕ)
  pub free : List ℕ

-- what is written of a directory, by its slots and the zones that it has, of which so many are its own
abbrev pub write_edits : Geometry → ℕ → Inode → List Slot → List ℕ → ℕ → ℕ → ℕ → List Edit
write_edits g number i slots zones own needed kept =
    bit_edits g true (drop own zones)
    ++ (bit_edits g false (drop (all_needed needed kept) zones)
    ++ (slot_edits (take needed zones) slots
    ++ (number_edits (indirect_of zones needed kept) (take needed zones)
    ++ put_inode number (wide_inode i (length slots) (take needed zones) (indirect_of zones needed kept)) ∷ [])))

-- how many zones a directory takes of the free ones
abbrev pub taken_by : Inode → List (List ℕ) → ℕ → ℕ
taken_by i blocks needed = all_needed needed (kept_by i needed) - length (own_zones blocks i needed)

-- one with this inode; no room where it needs more than 519 zones of data, or more free ones than are left
abbrev pub directory_written : Geometry → List (List ℕ) → ℕ → Directory → Widening → Result Widening WidenFault
directory_written g blocks number d w =
    if nat_lt 519 (zones_needed (length d.names)) || nat_lt (length w.free) (taken_by (inode_at g blocks number) blocks (zones_needed (length d.names))) then Err faults.NoRoom
    else Ok (record { image = edited_all g w.image (edits_of g blocks number d w.free); free = left_by g blocks number d w.free })

abbrev pub after_one : (Widening → Result Widening WidenFault) → Result Widening WidenFault → Result Widening WidenFault
after_one next (Ok w) = next w
after_one next (Err fault) = Err fault

-- a node of the tree; only a directory is written
abbrev pub node_written : Geometry → List (List ℕ) → ℕ → Node → Widening → Result Widening WidenFault
node_written g blocks birth (nodes.Directory d) w = directory_written g blocks (inode_of_birth birth) d w
node_written g blocks birth (nodes.File f) w = Ok w
node_written g blocks birth (nodes.Other mode) w = Ok w

-- all nodes, in their order
abbrev pub nodes_written : Geometry → List (List ℕ) → List (ℕ × Node) → Widening → Result Widening WidenFault
nodes_written g blocks [] w = Ok w
nodes_written g blocks (e ∷ es) w = after_one (nodes_written g blocks es) (node_written g blocks e.0 e.1 w)

-- ---- what fits 16 bits

-- the births of its parent and of the nodes that it names
pub record IsFitting (d : Directory) : Type 0 where
  pub parent : d.parent < 2 ^ 16
  pub names : All (λ e. e.1 < 2 ^ 16) d.names

abbrev pub FitNode : Node → Type 0
FitNode (nodes.Directory d) = IsFitting d
FitNode (nodes.File f) = Unit {0}
FitNode (nodes.Other mode) = Unit {0}

abbrev pub FitEntry : ℕ × Node → Type 0
FitEntry e = (e.0 < 2 ^ 16) × FitNode e.1
