-- The tree of a volume by its fields: what each node says, and how nodes hang together.
use Rattle.std.specs.Prelude.{◌≡◌, ◌≢◌, ℕ, ◌<◌, ◌/◌, ◌%◌, ◌==◌, ◌↔◌, true, false, if◌then◌else◌, List, Option, Some, None, Result, Ok}
use Rattle.byte_fields.specs.Fields.{record_at}
use Rattle.minix_layout.specs.Widths.{slot_size, slots_a_block}
use Rattle.minix_layout.specs.declared.division.Geometry.{Geometry}
use Rattle.minix_layout.specs.declared.inode.Inode.{Inode}
use Rattle.minix_layout.specs.declared.slot.Slot.{Slot}
use Rattle.minix_layout.specs.declared.fault.LayoutFault.{LayoutFault}
use Rattle.minix_layout.specs.Slots.{slot_of}
use Rattle.minix_tables.specs.inodes.Map.{zone_at}
use Rattle.tree_model.specs.declared.node.Node.{Node}
use Rattle.tree_model.specs.declared.node.Node.TheVariants as nodes
use Rattle.tree_model.specs.declared.node.Directory.{Directory}
use Rattle.tree_model.specs.declared.node.File.{File}
use Rattle.tree_model.specs.Maps.{at_number, at_name}
use Rattle.tree_model.specs.Paths.{is_dot}
use Rattle.tree_model.specs.Rooted.{HasEntry}
use Rattle.volume_ops.specs.Places.{table_block, inode_in_block, is_directory, is_file, zone_number, birth_of, inode_of_birth}
use Rattle.volume_ops.specs.Volume.{disk_of}

-- an inode of the volume
abbrev pub inode_at : Geometry → List (List ℕ) → ℕ → Inode
inode_at g blocks inode = inode_in_block inode (disk_of blocks (table_block g inode))

-- the zone of a block of a file, 0 for a hole, by the map of the inode's nine zones
abbrev pub zone_behind : List (List ℕ) → Inode → ℕ → ℕ
zone_behind blocks i index = zone_at (λ zone at. zone_number (disk_of blocks zone) at) i.zones index

-- the bytes of a block of a file, where it is no hole
abbrev pub block_behind : List (List ℕ) → Inode → ℕ → Option (List ℕ)
block_behind blocks i index = if zone_behind blocks i index == 0 then None else Some (disk_of blocks (zone_behind blocks i index))

-- slot number `place` of a directory; a hole is free slots
abbrev pub slot_behind : Geometry → List (List ℕ) → Inode → ℕ → Result (Option Slot) LayoutFault
slot_behind g blocks i place =
    if zone_behind blocks i (place / slots_a_block g.width) == 0 then Ok None
    else slot_of g.width (record_at (slot_size g.width) (place % slots_a_block g.width) (disk_of blocks (zone_behind blocks i (place / slots_a_block g.width))))

-- some slot below the size of a directory gives this name, which is neither . nor .., to this node
pub record HasName (g : Geometry) (blocks : List (List ℕ)) (i : Inode) (name : List ℕ) (birth : ℕ) : Type 0 where
  pub place : ℕ
  pub slot : Slot
  pub below : place < i.size / slot_size g.width
  pub stands : slot_behind g blocks i place ≡ Ok (Some slot)
  pub name_is : slot.name ≡ name
  pub no_dot : is_dot name ≡ false
  pub birth_is : birth_of slot.inode ≡ birth

-- the inode is that of this directory; of its parent nothing is said
pub record IsDirectoryOf (g : Geometry) (blocks : List (List ℕ)) (i : Inode) (d : Directory) : Type 0 where
  pub kind : is_directory i.mode ≡ true
  pub width : d.width ≡ g.width
  pub slots : d.slots ≡ i.size / slot_size g.width
  pub names : (name : List ℕ) (birth : ℕ) → (at_name d.names name ≡ Some birth) ↔ HasName g blocks i name birth

-- the inode is that of this file, with the bytes of its mapped blocks
pub record IsFileOf (blocks : List (List ℕ)) (i : Inode) (f : File) : Type 0 where
  pub kind : is_file i.mode ≡ true
  pub size : f.size ≡ i.size
  pub links : f.links ≡ i.links
  pub bodies : (index : ℕ) → at_number f.blocks index ≡ block_behind blocks i index

-- the inode is neither a directory nor a file, and has this mode
pub record IsOtherOf (i : Inode) (mode : ℕ) : Type 0 where
  pub no_directory : is_directory i.mode ≡ false
  pub no_file : is_file i.mode ≡ false
  pub mode_is : mode ≡ i.mode

-- a node says what its inode says
abbrev pub IsNodeOf : Geometry → List (List ℕ) → Inode → Node → Type 0
IsNodeOf g blocks i (nodes.Directory d) = IsDirectoryOf g blocks i d
IsNodeOf g blocks i (nodes.File f) = IsFileOf blocks i f
IsNodeOf g blocks i (nodes.Other mode) = IsOtherOf i mode

-- a directory's parent is the directory that names it
abbrev pub IsBelow : ℕ → Node → Type 0
IsBelow birth (nodes.Directory d) = d.parent ≡ birth
IsBelow birth node = Unit {0}

-- The tree that a volume stands for: each node says what its inode says, the root is a directory and its own
-- parent, each name leads to a node of the tree, each other node has a name, and a directory has one only.
pub record IsTreeOf (g : Geometry) (blocks : List (List ℕ)) (tree : List (ℕ × Node)) : Type 0 where
  pub each : (birth : ℕ) (node : Node) → at_number tree birth ≡ Some node → IsNodeOf g blocks (inode_at g blocks (inode_of_birth birth)) node
  pub root : (d : Directory) × (at_number tree 0 ≡ Some (nodes.Directory d)) × (d.parent ≡ 0)
  pub leads : (parent : ℕ) (name : List ℕ) (birth : ℕ) → HasEntry tree parent name birth → (node : Node) × (at_number tree birth ≡ Some node) × IsBelow parent node
  pub has_name : (birth : ℕ) (node : Node) → at_number tree birth ≡ Some node → birth ≢ 0 → (parent : ℕ) × (name : List ℕ) × HasEntry tree parent name birth
  pub one_name : (parent other : ℕ) (name more : List ℕ) (birth : ℕ) (d : Directory) → HasEntry tree parent name birth → HasEntry tree other more birth → at_number tree birth ≡ Some (nodes.Directory d) → (parent ≡ other) × (name ≡ more)
