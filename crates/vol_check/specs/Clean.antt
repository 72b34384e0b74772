-- A clean volume: its two maps, the links of its inodes and the dots of its directories say what its tree says.
use Rattle.std.specs.Prelude.{◌≡◌, ℕ, ◌+◌, ◌<◌, ◌≤◌, ◌==◌, ◌↔◌, true, false, if◌then◌else◌, List, codes, Some, Ok}
use Rattle.minix_layout.specs.declared.division.Geometry.{Geometry}
use Rattle.minix_layout.specs.declared.slot.Slot.{Slot}
use Rattle.minix_layout.specs.Bits.{inode_bit, zone_bit, has_bit}
use Rattle.tree_model.specs.declared.node.Node.{Node}
use Rattle.tree_model.specs.declared.node.Node.TheVariants as nodes
use Rattle.tree_model.specs.Maps.{at_number}
use Rattle.tree_model.specs.Plain.{names_to}
use Rattle.tree_model.specs.Trees.{directory_links}
use Rattle.volume_ops.specs.Places.{table_block, birth_of}
use Rattle.volume_ops.specs.VolumeFields.{inode_at, zone_behind, slot_behind}
use Rattle.volume_ops.specs.VolumeTrees.{IsVolumeTree}
use Rattle.volume_ops.specs.Faultless.{IsDirectory, HasZones, IsReached, IsUsed, NamesAt, slots_of}

-- ---- the maps

-- the bit of an inode is 1 just where names lead to it
abbrev pub HasInodeBit : Geometry → List (List ℕ) → ℕ → Type 0
HasInodeBit g blocks inode = (has_bit blocks (inode_bit g inode) ≡ true) ↔ IsReached g blocks inode

-- names lead to the inode, and it is neither a directory nor a file; which zones it has is not read
abbrev pub IsOther : Geometry → List (List ℕ) → ℕ → Type 0
IsOther g blocks inode = IsReached g blocks inode × (HasZones g blocks inode → ⊥)

-- there is such an inode
abbrev pub HasOther : Geometry → List (List ℕ) → Type 0
HasOther g blocks = (inode : ℕ) × IsOther g blocks inode

-- The bit of a zone is 1 where an inode that names lead to has the zone. Else it is 0, unless something may have zones
-- that are not read.
pub record HasZoneBit (g : Geometry) (blocks : List (List ℕ)) (zone : ℕ) : Type 0 where
  pub used : IsUsed g blocks zone → has_bit blocks (zone_bit g zone) ≡ true
  pub unused : (IsUsed g blocks zone → ⊥) → (HasOther g blocks → ⊥) → has_bit blocks (zone_bit g zone) ≡ false

-- ---- links

-- for a directory 2 and one for each of its directories, for anything else its names
abbrev pub links_in : List (ℕ × Node) → ℕ → Node → ℕ
links_in tree birth (nodes.Directory d) = directory_links tree d
links_in tree birth other = names_to tree birth

-- where names lead to the inode, it has so many links as the volume's tree says
abbrev pub HasLinks : Geometry → List (List ℕ) → ℕ → Type 0
HasLinks g blocks inode = (tree : List (ℕ × Node)) (node : Node) → IsVolumeTree g blocks tree → at_number tree (birth_of inode) ≡ Some node →
    (inode_at g blocks inode).links ≡ links_in tree (birth_of inode) node

-- ---- dots

-- the parent of a directory is the one that names it; the root is its own
pub data IsParent (g : Geometry) (blocks : List (List ℕ)) : ℕ → ℕ → Type 0 where
  of_root : IsParent g blocks 1 1
  by_name : {inode place : ℕ} {slot : Slot} → IsReached g blocks inode → NamesAt g blocks inode place slot → IsParent g blocks slot.inode inode

-- a directory has two slots or more: the first is . with its own number, the second .. with its parent's
pub record AreDots (g : Geometry) (blocks : List (List ℕ)) (inode : ℕ) : Type 0 where
  pub two : 2 ≤ slots_of g blocks inode
  pub here : slot_behind g blocks (inode_at g blocks inode) 0 ≡ Ok (Some (record { inode = inode; name = codes "." }))
  pub parent : ℕ
  pub is_parent : IsParent g blocks inode parent
  pub above : slot_behind g blocks (inode_at g blocks inode) 1 ≡ Ok (Some (record { inode = parent; name = codes ".." }))

-- where names lead to the inode and it is a directory, it has its dots
abbrev pub HasDots : Geometry → List (List ℕ) → ℕ → Type 0
HasDots g blocks inode = IsReached g blocks inode → IsDirectory g blocks inode → AreDots g blocks inode

-- the first zone of a directory, or the block of its inode where this is a hole
abbrev pub dots_block : Geometry → List (List ℕ) → ℕ → ℕ
dots_block g blocks inode =
    if zone_behind blocks (inode_at g blocks inode) 0 == 0 then table_block g inode
    else zone_behind blocks (inode_at g blocks inode) 0

-- ---- a clean volume

-- Each inode and each zone of data has its bit, each inode its links, and each directory its dots. Bits past the last
-- inode and zone may be anything.
pub record IsClean (g : Geometry) (blocks : List (List ℕ)) : Type 0 where
  pub inode_bits : (inode : ℕ) → 1 ≤ inode → inode ≤ g.inodes → HasInodeBit g blocks inode
  pub zone_bits : (zone : ℕ) → g.first ≤ zone → zone < g.zones → HasZoneBit g blocks zone
  pub links : (inode : ℕ) → 1 ≤ inode → inode ≤ g.inodes → HasLinks g blocks inode
  pub dots : (inode : ℕ) → 1 ≤ inode → inode ≤ g.inodes → HasDots g blocks inode
