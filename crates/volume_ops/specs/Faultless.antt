-- A volume without a fault, by its fields: what must hold of its inodes, of their zones and of the names of its directories.
use Rattle.std.specs.Prelude.{◌≡◌, ◌≢◌, ℕ, ◌/◌, ◌%◌, ◌<◌, ◌≤◌, ◌⊎◌, true, false, List, Option, Some, Ok}
use Rattle.minix_layout.specs.Widths.{slot_size}
use Rattle.minix_layout.specs.declared.division.Geometry.{Geometry}
use Rattle.minix_layout.specs.declared.inode.Inode.{Inode}
use Rattle.minix_layout.specs.declared.slot.Slot.{Slot}
use Rattle.tree_model.specs.Paths.{is_dot}
use Rattle.volume_ops.specs.Places.{largest_size, is_directory, is_file}
use Rattle.volume_ops.specs.VolumeFields.{inode_at, slot_behind}
use Rattle.volume_ops.specs.ZonePlaces.{ZonePlace, zone_in}

-- ---- what inodes are, have and name

-- of an inode, by its number
abbrev pub IsDirectory : Geometry → List (List ℕ) → ℕ → Type 0
IsDirectory g blocks inode = is_directory (inode_at g blocks inode).mode ≡ true

abbrev pub IsFile : Geometry → List (List ℕ) → ℕ → Type 0
IsFile g blocks inode = is_file (inode_at g blocks inode).mode ≡ true

-- a directory or a file; the zones of anything else are not read
abbrev pub HasZones : Geometry → List (List ℕ) → ℕ → Type 0
HasZones g blocks inode = IsDirectory g blocks inode ⊎ IsFile g blocks inode

-- the zone of an inode at a place, 0 for none
abbrev pub zone_at_place : Geometry → List (List ℕ) → ℕ → ZonePlace → ℕ
zone_at_place g blocks inode x = zone_in blocks (inode_at g blocks inode) x

-- how many slots lie below the size of a directory
abbrev pub slots_of : Geometry → List (List ℕ) → ℕ → ℕ
slots_of g blocks inode = (inode_at g blocks inode).size / slot_size g.width

-- a slot below the size, in use, under another name than . and ..
pub record IsEntryAt (g : Geometry) (blocks : List (List ℕ)) (i : Inode) (place : ℕ) (slot : Slot) : Type 0 where
  pub below : place < i.size / slot_size g.width
  pub stands : slot_behind g blocks i place ≡ Ok (Some slot)
  pub no_dot : is_dot slot.name ≡ false

-- so in a directory, which names the slot's inode by it
pub record NamesAt (g : Geometry) (blocks : List (List ℕ)) (inode place : ℕ) (slot : Slot) : Type 0 where
  pub directory : IsDirectory g blocks inode
  pub entry : IsEntryAt g blocks (inode_at g blocks inode) place slot

-- the inodes that names lead to from the root
pub data IsReached (g : Geometry) (blocks : List (List ℕ)) : ℕ → Type 0 where
  at_root : IsReached g blocks 1
  by_name : {inode place : ℕ} {slot : Slot} → IsReached g blocks inode → NamesAt g blocks inode place slot → IsReached g blocks slot.inode

-- an inode that names lead to has this zone
pub record IsUsed (g : Geometry) (blocks : List (List ℕ)) (zone : ℕ) : Type 0 where
  pub inode : ℕ
  pub place : ZonePlace
  pub reached : IsReached g blocks inode
  pub kind : HasZones g blocks inode
  pub some : zone ≢ 0
  pub stands : zone_at_place g blocks inode place ≡ zone

-- ---- no fault

-- The inodes P have no fault, neither in themselves nor between them: the root is a directory, no size is too
-- large, a directory's is a whole number of slots, each zone is one of the zones of data and had once, each slot can
-- be read, each name stands once in its directory and leads to an inode of the table, and a directory has one name,
-- the root none.
pub record AreFaultless (g : Geometry) (blocks : List (List ℕ)) (P : ℕ → Type 0) : Type 0 where
  pub root : P 1 → IsDirectory g blocks 1
  pub size : (inode : ℕ) → P inode → HasZones g blocks inode → (inode_at g blocks inode).size ≤ largest_size
  pub whole_slots : (inode : ℕ) → P inode → IsDirectory g blocks inode → (inode_at g blocks inode).size % slot_size g.width ≡ 0
  pub zone_within : (inode : ℕ) (x : ZonePlace) → P inode → HasZones g blocks inode → zone_at_place g blocks inode x ≢ 0 →
      (g.first ≤ zone_at_place g blocks inode x) × (zone_at_place g blocks inode x < g.zones)
  pub zone_once : (inode other : ℕ) (x y : ZonePlace) → P inode → P other → HasZones g blocks inode → HasZones g blocks other →
      zone_at_place g blocks inode x ≢ 0 → zone_at_place g blocks inode x ≡ zone_at_place g blocks other y → (inode ≡ other) × (x ≡ y)
  pub slot_read : (inode place : ℕ) → P inode → IsDirectory g blocks inode → place < slots_of g blocks inode →
      (slot : Option Slot) × (slot_behind g blocks (inode_at g blocks inode) place ≡ Ok slot)
  pub inode_within : (inode place : ℕ) (slot : Slot) → P inode → NamesAt g blocks inode place slot → slot.inode ≤ g.inodes
  pub name_once : (inode place other : ℕ) (slot more : Slot) → P inode → NamesAt g blocks inode place slot → NamesAt g blocks inode other more →
      slot.name ≡ more.name → place ≡ other
  pub directory_once : (inode other place at : ℕ) (slot more : Slot) → P inode → P other → NamesAt g blocks inode place slot → NamesAt g blocks other at more →
      slot.inode ≡ more.inode → IsDirectory g blocks slot.inode → (inode ≡ other) × (place ≡ at)
  pub root_unnamed : (inode place : ℕ) (slot : Slot) → P inode → NamesAt g blocks inode place slot → slot.inode ≢ 1

-- A volume without a fault: what names lead to from the root has none.
abbrev pub IsFaultless : Geometry → List (List ℕ) → Type 0
IsFaultless g blocks = AreFaultless g blocks (IsReached g blocks)
