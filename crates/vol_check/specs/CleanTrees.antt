-- What a clean volume is, in the words of its tree.
use Rattle.std.specs.Prelude.{◌≡◌, ℕ, ◌<◌, ◌≤◌, ◌↔◌, true, false, List, codes, Some, Ok}
use Rattle.minix_layout.specs.declared.division.Geometry.{Geometry}
use Rattle.minix_layout.specs.Bits.{inode_bit, zone_bit, has_bit}
use Rattle.tree_model.specs.declared.node.Node.{Node}
use Rattle.tree_model.specs.declared.node.Node.TheVariants as nodes
use Rattle.tree_model.specs.declared.node.Directory.{Directory}
use Rattle.tree_model.specs.declared.node.File.{File}
use Rattle.tree_model.specs.Maps.{at_number}
use Rattle.tree_model.specs.Plain.{names_to}
use Rattle.tree_model.specs.Trees.{directory_links}
use Rattle.volume_ops.specs.Places.{birth_of, inode_of_birth}
use Rattle.volume_ops.specs.VolumeFields.{inode_at, slot_behind}
use Rattle.volume_ops.specs.Faultless.{IsUsed, slots_of}

-- the tree has a node that is neither a directory nor a file
abbrev pub HasOtherNode : List (ℕ × Node) → Type 0
HasOtherNode tree = (birth : ℕ) × (mode : ℕ) × (at_number tree birth ≡ Some (nodes.Other mode))

-- a directory has two slots or more, and the first two lead to itself and to its parent
pub record LeadBack (g : Geometry) (blocks : List (List ℕ)) (inode parent : ℕ) : Type 0 where
  pub two : 2 ≤ slots_of g blocks inode
  pub here : slot_behind g blocks (inode_at g blocks inode) 0 ≡ Ok (Some (record { inode = inode; name = codes "." }))
  pub above : slot_behind g blocks (inode_at g blocks inode) 1 ≡ Ok (Some (record { inode = parent; name = codes ".." }))

-- The bit of an inode is set just where the tree has a node of that inode, the bit of a zone just where the tree uses
-- the zone, as far as it can be told. Files, and other nodes, have as many links as names lead to them, directories 2 and
-- one for each of their directories. The first two slots of a directory lead to itself and to its parent.
pub record AgreesWith (g : Geometry) (blocks : List (List ℕ)) (tree : List (ℕ × Node)) : Type 0 where
  pub inode_bits : (inode : ℕ) → 1 ≤ inode → inode ≤ g.inodes →
      (has_bit blocks (inode_bit g inode) ≡ true) ↔ ((node : Node) × (at_number tree (birth_of inode) ≡ Some node))
  pub used_zones : (zone : ℕ) → g.first ≤ zone → zone < g.zones → IsUsed g blocks zone → has_bit blocks (zone_bit g zone) ≡ true
  pub unused_zones : (zone : ℕ) → g.first ≤ zone → zone < g.zones → (IsUsed g blocks zone → ⊥) → (HasOtherNode tree → ⊥) →
      has_bit blocks (zone_bit g zone) ≡ false
  pub directories : (birth : ℕ) (d : Directory) → at_number tree birth ≡ Some (nodes.Directory d) →
      (inode_at g blocks (inode_of_birth birth)).links ≡ directory_links tree d
  pub files : (birth : ℕ) (f : File) → at_number tree birth ≡ Some (nodes.File f) → f.links ≡ names_to tree birth
  pub others : (birth mode : ℕ) → at_number tree birth ≡ Some (nodes.Other mode) →
      (inode_at g blocks (inode_of_birth birth)).links ≡ names_to tree birth
  pub dots : (birth : ℕ) (d : Directory) → at_number tree birth ≡ Some (nodes.Directory d) →
      LeadBack g blocks (inode_of_birth birth) (inode_of_birth d.parent)
