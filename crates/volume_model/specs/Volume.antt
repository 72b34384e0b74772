-- What ties the blocks of a volume to its nodes.
use Rattle.std.specs.Prelude.{◌≡◌, ◌≢◌, ℕ, ◌+◌, ◌*◌, ◌/◌, ◌%◌, ◌<◌, ◌≤◌, false, true, List, length, map, slice_index, Option, Some, Ok}
use Rattle.std.specs.List.{slice_get}
use Rattle.std.specs.List.Sorted.{IsStrictlySortedBy}
use Rattle.std.specs.Map.{keys_of}
use Rattle.std.specs.Ordering.{nat_cmp}
use Rattle.blk_base.specs.Members.{In}
use Rattle.byte_fields.specs.Fields.{record_at}
use Rattle.minix_layout.specs.Widths.{slot_size, slots_a_block}
use Rattle.minix_layout.specs.declared.division.Geometry.{Geometry}
use Rattle.minix_layout.specs.declared.inode.Inode.{Inode}
use Rattle.minix_layout.specs.declared.slot.Slot.{Slot}
use Rattle.minix_layout.specs.Inodes.{FitInode}
use Rattle.minix_layout.specs.Slots.{slot_of}
use Rattle.minix_tables.specs.inodes.Map.{entry_behind}
use Rattle.tree_model.specs.Maps.{at_number, at_name}
use Rattle.tree_model.specs.Paths.{is_dot}
use Rattle.volume_ops.specs.declared.found.Mapped.{Mapped}
use Rattle.volume_ops.specs.Places.{is_directory, is_file, zone_number}
use Rattle.volume_ops.specs.Volume.{disk_of}
use Rattle.volume_ops.specs.VolumeFields.{inode_at, zone_behind}
use Rattle.volume_model.specs.declared.placed.Placed.{Placed}
use Rattle.volume_model.specs.declared.placed.Part.{Part}
use Rattle.volume_model.specs.declared.placed.Part.TheVariants as parts
use Rattle.volume_model.specs.declared.placed.DirectoryPart.{DirectoryPart}
use Rattle.minix_tables.specs.directories.Slots.{used_count}
pub use Rattle.volume_model.specs.Holes.{IsRising}

-- where an inode has a zone: a block of it, its zone of numbers, and the two levels of the doubly indirect one
pub data Place : Type 0 where
  block : ℕ → Place
  indirect : Place
  double : Place
  inner : ℕ → Place

-- the zone there, 0 for none
abbrev pub zone_in : List (List ℕ) → Inode → Place → ℕ
zone_in blocks i (block index) = zone_behind blocks i index
zone_in blocks i indirect = slice_index i.zones 7
zone_in blocks i double = slice_index i.zones 8
zone_in blocks i (inner k) = entry_behind (λ zone at. zone_number (disk_of blocks zone) at) (slice_index i.zones 8) k

-- zones of numbers
pub data IsOfNumbers : Place → Type 0 where
  at_indirect : IsOfNumbers indirect
  at_double : IsOfNumbers double
  at_inner : {k : ℕ} → IsOfNumbers (inner k)

-- every block has 1,024 bytes
abbrev pub IsWhole : List (List ℕ) → Type 0
IsWhole blocks = (b : ℕ) → length (disk_of blocks b) ≡ 1024

-- slot k of a directory stands in its blocks
pub record HasSlot (g : Geometry) (blocks : List (List ℕ)) (i : Inode) (k : ℕ) (s : Option Slot) : Type 0 where
  pub mapped : zone_behind blocks i (k / slots_a_block g.width) ≢ 0
  pub stands : slot_of g.width (record_at (slot_size g.width) (k % slots_a_block g.width) (disk_of blocks (zone_behind blocks i (k / slots_a_block g.width)))) ≡ Ok s

-- a directory's list has its slots, each as it stands in the blocks
pub record IsDirectoryPart (g : Geometry) (blocks : List (List ℕ)) (i : Inode) (d : DirectoryPart) : Type 0 where
  pub kind : is_directory i.mode ≡ true
  pub width : d.width ≡ g.width
  pub size : i.size ≡ slot_size g.width * length d.slots
  pub slots : (k : ℕ) (s : Option Slot) → slice_get d.slots k ≡ Some s → HasSlot g blocks i k s

-- a file's list has its mapped blocks, and no others, in order
pub record IsFilePart (blocks : List (List ℕ)) (i : Inode) (zones : List Mapped) : Type 0 where
  pub kind : is_file i.mode ≡ true
  pub listed : (x : Mapped) → In x zones → (zone_behind blocks i x.index ≡ x.zone) × (x.zone ≢ 0)
  pub full : (index : ℕ) → zone_behind blocks i index ≢ 0 → In (record { index = index; zone = zone_behind blocks i index }) zones
  pub rising : IsRising zones

abbrev pub IsPart : Geometry → List (List ℕ) → Inode → Part → Type 0
IsPart g blocks i (parts.Directory d) = IsDirectoryPart g blocks i d
IsPart g blocks i (parts.File zones) = IsFilePart blocks i zones

-- a node stands in its inode and its zones
pub record IsStored (g : Geometry) (blocks : List (List ℕ)) (p : Placed) : Type 0 where
  pub some : 0 < p.number
  pub within : p.number ≤ g.inodes
  pub fits : FitInode p.inode
  pub inode : inode_at g blocks p.number ≡ p.inode
  pub zones : (x : Place) → zone_in blocks p.inode x ≢ 0 → (g.first ≤ zone_in blocks p.inode x) × (zone_in blocks p.inode x < g.zones)
  pub part : IsPart g blocks p.inode p.part

-- a birth has this number of an inode
abbrev pub HasNumber : List (ℕ × Placed) → ℕ → ℕ → Type 0
HasNumber nodes birth number = (p : Placed) × (at_number nodes birth ≡ Some p) × (p.number ≡ number)

-- a slot gives this name to this node
pub record IsNamedIn (nodes : List (ℕ × Placed)) (slots : List (Option Slot)) (name : List ℕ) (birth : ℕ) : Type 0 where
  pub place : ℕ
  pub slot : Slot
  pub stands : slice_get slots place ≡ Some (Some slot)
  pub name_is : slot.name ≡ name
  pub no_dot : is_dot name ≡ false
  pub number : HasNumber nodes birth slot.inode

-- names and slots of a directory say the same
pub record HasNames (nodes : List (ℕ × Placed)) (d : DirectoryPart) : Type 0 where
  pub named : (name : List ℕ) (birth : ℕ) → at_name d.names name ≡ Some birth → IsNamedIn nodes d.slots name birth
  pub full : (k : ℕ) (s : Slot) → slice_get d.slots k ≡ Some (Some s) → is_dot s.name ≡ false → (birth : ℕ) × (at_name d.names s.name ≡ Some birth) × HasNumber nodes birth s.inode
  pub count : used_count d.slots ≡ 2 + length d.names
  pub once : (j k : ℕ) (s t : Slot) → slice_get d.slots j ≡ Some (Some s) → slice_get d.slots k ≡ Some (Some t) → s.name ≡ t.name → j ≡ k

-- The blocks say the nodes: each stands in its own inode and its own zones. No inode has two nodes, no zone two places.
pub record IsVolumeOf (g : Geometry) (blocks : List (List ℕ)) (nodes : List (ℕ × Placed)) : Type 0 where
  pub whole : IsWhole blocks
  pub size : length blocks ≡ g.zones
  pub in_order : IsStrictlySortedBy nat_cmp (keys_of nodes)
  pub each : (birth : ℕ) (p : Placed) → at_number nodes birth ≡ Some p → IsStored g blocks p
  pub names : (birth : ℕ) (p : Placed) (d : DirectoryPart) → at_number nodes birth ≡ Some p → p.part ≡ parts.Directory d → HasNames nodes d
  pub numbers : (a b : ℕ) (p q : Placed) → at_number nodes a ≡ Some p → at_number nodes b ≡ Some q → p.number ≡ q.number → a ≡ b
  pub zones : (a b : ℕ) (p q : Placed) (x y : Place) → at_number nodes a ≡ Some p → at_number nodes b ≡ Some q →
      zone_in blocks p.inode x ≡ zone_in blocks q.inode y → zone_in blocks p.inode x ≢ 0 → (a ≡ b) × (x ≡ y)
