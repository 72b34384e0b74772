-- Plain volumes: those whose calls are told of here. As the blocks of an image, and as a volume that changes.
use Rattle.std.specs.Prelude.{◌≡◌, ◌≢◌, ℕ, ◌*◌, ◌/◌, ◌<◌, ◌≤◌, false, List, codes, length, map, Option, Some, None, Result, Ok, Err}
use Rattle.std.specs.List.{slice_get, range_with_len}
use Rattle.minix_layout.specs.Widths.{slot_size, slots_a_block, most_slots}
use Rattle.minix_layout.specs.declared.division.Geometry.{Geometry}
use Rattle.minix_layout.specs.declared.inode.Inode.{Inode}
use Rattle.minix_layout.specs.declared.slot.Slot.{Slot}
use Rattle.minix_layout.specs.declared.fault.LayoutFault.{LayoutFault}
use Rattle.tree_model.specs.declared.node.Node.{Node}
use Rattle.tree_model.specs.declared.node.Node.TheVariants as nodes
use Rattle.tree_model.specs.declared.node.Directory.{Directory}
use Rattle.tree_model.specs.declared.node.File.{File}
use Rattle.tree_model.specs.Maps.{at_number}
use Rattle.tree_model.specs.Paths.{is_dot}
use Rattle.tree_model.specs.Trees.{directory_links}
use Rattle.tree_model.specs.Rooted.{HasEntry, IsRooted}
use Rattle.tree_model.specs.Plain.{names_to}
use Rattle.volume_ops.specs.declared.found.Mapped.{Mapped}
use Rattle.volume_ops.specs.Places.{largest_size, inode_of_birth}
use Rattle.volume_ops.specs.VolumeFields.{inode_at, slot_behind}
use Rattle.volume_ops.specs.VolumeTrees.{IsVolumeTree}
use Rattle.volume_model.specs.declared.placed.Placed.{Placed}
use Rattle.volume_model.specs.declared.placed.Part.TheVariants as parts
use Rattle.volume_model.specs.declared.placed.DirectoryPart.{DirectoryPart}
use Rattle.volume_model.specs.Volume.{Place, block, zone_in}
use Rattle.volume_model.specs.Ways.{IsJust}
use Rattle.volume_model.specs.Touched.{Contents}
use Rattle.volume_model.specs.Moves.{IsVolume}
use Rattle.volume_model.specs.Trees.{directory_from, tree_now}
use Rattle.minix_layout.specs.declared.limits.TheConstants.{MOST_LINKS}

-- ---- directories

-- The first slot of a directory is . with its own number, the second .. with its parent's; no later one has these names.
pub record HasDots (slots : List (Option Slot)) (own parent : ℕ) : Type 0 where
  pub here : slice_get slots 0 ≡ Some (Some (record { inode = own; name = codes "." }))
  pub above : slice_get slots 1 ≡ Some (Some (record { inode = parent; name = codes ".." }))
  pub no_later : (k : ℕ) (s : Slot) → 1 < k → slice_get slots k ≡ Some (Some s) → is_dot s.name ≡ false

-- A directory has at most 519 zones of slots, just those that its slots need, and no hole among them.
pub record HasSlotZones (g : Geometry) (blocks : List (List ℕ)) (i : Inode) (slots : ℕ) : Type 0 where
  pub few : slots ≤ most_slots g.width
  pub no_hole : (index : ℕ) → slots_a_block g.width * index < slots → zone_in blocks i (block index) ≢ 0
  pub no_more : (index : ℕ) → zone_in blocks i (block index) ≢ 0 → slots_a_block g.width * index < slots

-- ---- images

-- the inode of the node with this birth
abbrev pub inode_born : Geometry → List (List ℕ) → ℕ → Inode
inode_born g blocks birth = inode_at g blocks (inode_of_birth birth)

-- what was read; a slot that cannot be read counts as free here
abbrev pub slot_or_free : Result (Option Slot) LayoutFault → Option Slot
slot_or_free (Ok s) = s
slot_or_free (Err fault) = None

-- slot `k` of a directory; one in a hole counts as free too
abbrev pub slot_in : Geometry → List (List ℕ) → Inode → ℕ → Option Slot
slot_in g blocks i k = slot_or_free (slot_behind g blocks i k)

-- the slots below the size of a directory
abbrev pub slots_in : Geometry → List (List ℕ) → Inode → List (Option Slot)
slots_in g blocks i = map (slot_in g blocks i) (range_with_len 0 (i.size / slot_size g.width))

-- A plain image, with its tree by inode numbers: it has no fault and no node but directories and files; directories
-- have their dots and the zones that their slots need; zones of numbers are there only where they lead to a mapped
-- block; links are 2 and the directories in a directory, and for a file its names; no node has more than `MOST_LINKS`.
pub record IsPlainVolume (g : Geometry) (blocks : List (List ℕ)) (tree : List (ℕ × Node)) : Type 0 where
  pub stands : IsVolumeTree g blocks tree
  pub no_other : (birth mode : ℕ) → at_number tree birth ≡ Some (nodes.Other mode) → ⊥
  pub dots : (birth : ℕ) (d : Directory) → at_number tree birth ≡ Some (nodes.Directory d) →
      HasDots (slots_in g blocks (inode_born g blocks birth)) (inode_of_birth birth) (inode_of_birth d.parent)
  pub slot_zones : (birth : ℕ) (d : Directory) → at_number tree birth ≡ Some (nodes.Directory d) → HasSlotZones g blocks (inode_born g blocks birth) d.slots
  pub just : (birth : ℕ) (node : Node) → at_number tree birth ≡ Some node → IsJust (λ x. zone_in blocks (inode_born g blocks birth) x)
  pub directory_links_are : (birth : ℕ) (d : Directory) → at_number tree birth ≡ Some (nodes.Directory d) → (inode_born g blocks birth).links ≡ directory_links tree d
  pub file_links_are : (birth : ℕ) (f : File) → at_number tree birth ≡ Some (nodes.File f) → f.links ≡ names_to tree birth
  pub few_links : (birth : ℕ) (node : Node) → at_number tree birth ≡ Some node → (inode_born g blocks birth).links ≤ MOST_LINKS

-- ---- volumes that change

-- The same of blocks and nodes by births: the blocks say the nodes, the tree of the nodes hangs together, and inode 1
-- is the root's, which is its own parent.
pub record IsPlainContents (g : Geometry) (v : Contents) : Type 0 where
  pub volume : IsVolume g v
  pub rooted : IsRooted (tree_now v.blocks v.nodes)
  pub root_number : (p : Placed) → at_number v.nodes 0 ≡ Some p → p.number ≡ 1
  pub root_parent : (d : Directory) → at_number (tree_now v.blocks v.nodes) 0 ≡ Some (nodes.Directory d) → d.parent ≡ 0
  pub parents : (parent : ℕ) (name : List ℕ) (birth : ℕ) (d : Directory) → HasEntry (tree_now v.blocks v.nodes) parent name birth →
      at_number (tree_now v.blocks v.nodes) birth ≡ Some (nodes.Directory d) → d.parent ≡ parent
  pub sizes : (birth : ℕ) (p : Placed) (zones : List Mapped) → at_number v.nodes birth ≡ Some p → p.part ≡ parts.File zones → p.inode.size ≤ largest_size
  pub dots : (birth : ℕ) (p : Placed) (d : DirectoryPart) → at_number v.nodes birth ≡ Some p → p.part ≡ parts.Directory d →
      (q : Placed) × (at_number v.nodes d.parent ≡ Some q) × HasDots d.slots p.number q.number
  pub slot_zones : (birth : ℕ) (p : Placed) (d : DirectoryPart) → at_number v.nodes birth ≡ Some p → p.part ≡ parts.Directory d → HasSlotZones g v.blocks p.inode (length d.slots)
  pub directory_links_are : (birth : ℕ) (p : Placed) (d : DirectoryPart) → at_number v.nodes birth ≡ Some p → p.part ≡ parts.Directory d →
      p.inode.links ≡ directory_links (tree_now v.blocks v.nodes) (directory_from d)
  pub file_links_are : (birth : ℕ) (p : Placed) (zones : List Mapped) → at_number v.nodes birth ≡ Some p → p.part ≡ parts.File zones →
      p.inode.links ≡ names_to (tree_now v.blocks v.nodes) birth
  pub few_links : (birth : ℕ) (p : Placed) → at_number v.nodes birth ≡ Some p → p.inode.links ≤ MOST_LINKS

-- a node has this zone, for a block of it or for numbers of zones
pub record HasZone (v : Contents) (zone : ℕ) : Type 0 where
  pub birth : ℕ
  pub placed : Placed
  pub place : Place
  pub stands : at_number v.nodes birth ≡ Some placed
  pub zone_is : zone_in v.blocks placed.inode place ≡ zone
  pub some : zone ≢ 0
