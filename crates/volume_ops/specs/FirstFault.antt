-- The faults of a volume in the order of their tests: what is wrong with a part, given what was met before, and which fault is the first.
use Rattle.std.specs.Prelude.{◌≡◌, ◌≢◌, ℕ, ◌/◌, ◌%◌, ◌<◌, ◌≤◌, ◌↔◌, List, [], ◌∷◌, ◌++◌, map, Some, Err}
use Rattle.std.specs.List.Sorted.{IsStrictlySortedBy}
use Rattle.std.specs.Map.{keys_of}
use Rattle.blk_base.specs.Members.{In}
use Rattle.minix_layout.specs.Widths.{slot_size, slots_a_block}
use Rattle.minix_layout.specs.declared.division.Geometry.{Geometry}
use Rattle.minix_layout.specs.declared.slot.Slot.{Slot}
use Rattle.minix_layout.specs.declared.fault.LayoutFault.{LayoutFault}
use Rattle.minix_layout.specs.declared.fault.LayoutFault.TheVariants.{BadInode, BadZone, BadSlot}
use Rattle.tree_model.specs.Maps.{at_name, name_cmp}
use Rattle.volume_ops.specs.Places.{largest_size, table_block, inode_of_birth}
use Rattle.volume_ops.specs.VolumeFields.{inode_at, zone_behind, slot_behind, HasName}
use Rattle.volume_ops.specs.ZonePlaces.{ZonePlace, pointer_block_in, rank}
use Rattle.volume_ops.specs.Faultless.{IsDirectory, HasZones, zone_at_place, slots_of, NamesAt, AreFaultless}

-- the block that holds the number of a zone of an inode
abbrev pub pointer_block_of : Geometry → List (List ℕ) → ℕ → ZonePlace → ℕ
pointer_block_of g blocks inode x = pointer_block_in blocks (table_block g inode) (inode_at g blocks inode) x

-- the zone that a slot stands in
abbrev pub slot_zone : Geometry → List (List ℕ) → ℕ → ℕ → ℕ
slot_zone g blocks inode place = zone_behind blocks (inode_at g blocks inode) (place / slots_a_block g.width)

-- ---- what can be wrong, where the inodes `met` were met before

-- with an inode by itself
pub data IsBadInode (g : Geometry) (blocks : List (List ℕ)) (inode : ℕ) : Type 0 where
  root_is_none : inode ≡ 1 → (IsDirectory g blocks inode → ⊥) → IsBadInode g blocks inode
  size_too_large : HasZones g blocks inode → largest_size < (inode_at g blocks inode).size → IsBadInode g blocks inode
  part_of_a_slot : IsDirectory g blocks inode → (inode_at g blocks inode).size % slot_size g.width ≢ 0 → IsBadInode g blocks inode

-- with the zone of an inode at a place: it is none of the zones of data, or was had before
pub data IsBadZone (g : Geometry) (blocks : List (List ℕ)) (met : ℕ → Type 0) (inode : ℕ) (x : ZonePlace) : Type 0 where
  too_low : zone_at_place g blocks inode x < g.first → IsBadZone g blocks met inode x
  too_high : g.zones ≤ zone_at_place g blocks inode x → IsBadZone g blocks met inode x
  had_by : (other : ℕ) (y : ZonePlace) → met other → HasZones g blocks other → zone_at_place g blocks other y ≡ zone_at_place g blocks inode x → IsBadZone g blocks met inode x
  had_here : (y : ZonePlace) → rank y < rank x → zone_at_place g blocks inode y ≡ zone_at_place g blocks inode x → IsBadZone g blocks met inode x

-- with a slot of a directory
pub data IsBadSlot (g : Geometry) (blocks : List (List ℕ)) (met : ℕ → Type 0) (inode place : ℕ) : Type 0 where
  no_name : slot_behind g blocks (inode_at g blocks inode) place ≡ Err BadSlot → IsBadSlot g blocks met inode place
  no_inode : (slot : Slot) → NamesAt g blocks inode place slot → g.inodes < slot.inode → IsBadSlot g blocks met inode place
  name_before : (slot more : Slot) (other : ℕ) → NamesAt g blocks inode place slot → other < place → NamesAt g blocks inode other more →
      more.name ≡ slot.name → IsBadSlot g blocks met inode place
  names_root : (slot : Slot) → NamesAt g blocks inode place slot → slot.inode ≡ 1 → IsDirectory g blocks slot.inode → IsBadSlot g blocks met inode place
  named_by : (slot more : Slot) (other at : ℕ) → NamesAt g blocks inode place slot → IsDirectory g blocks slot.inode → met other →
      NamesAt g blocks other at more → more.inode ≡ slot.inode → IsBadSlot g blocks met inode place
  named_here : (slot more : Slot) (at : ℕ) → NamesAt g blocks inode place slot → IsDirectory g blocks slot.inode → at < place →
      NamesAt g blocks inode at more → more.inode ≡ slot.inode → IsBadSlot g blocks met inode place

-- ---- the order of the inodes

-- the inodes that an inode names, in the order of the names; only directories do
pub data AreNamed (g : Geometry) (blocks : List (List ℕ)) (inode : ℕ) : List ℕ → Type 0 where
  by_directory : (names : List (List ℕ × ℕ)) → IsDirectory g blocks inode → IsStrictlySortedBy name_cmp (keys_of names) →
      ((name : List ℕ) (birth : ℕ) → (at_name names name ≡ Some birth) ↔ HasName g blocks (inode_at g blocks inode) name birth) →
      AreNamed g blocks inode (map (λ e. inode_of_birth e.1) names)
  by_none : (IsDirectory g blocks inode → ⊥) → AreNamed g blocks inode []

-- The order in which inodes are met, from the root on: `met` were met, in this order, and `ahead` come next. What
-- was met is passed over; what an inode names comes right after it.
pub data AreMet (g : Geometry) (blocks : List (List ℕ)) : List ℕ → List ℕ → Type 0 where
  at_start : AreMet g blocks [] (1 ∷ [])
  again : {met ahead : List ℕ} {inode : ℕ} → In inode met → AreMet g blocks met (inode ∷ ahead) → AreMet g blocks met ahead
  next : {met ahead named : List ℕ} {inode : ℕ} → (In inode met → ⊥) → AreMet g blocks met (inode ∷ ahead) → AreNamed g blocks inode named →
      AreMet g blocks (met ++ inode ∷ []) (named ++ ahead)

-- ---- the first fault

-- the first fault of an inode, where the inodes `met` were met before, and the block at which it is told
pub data IsFirstHere (g : Geometry) (blocks : List (List ℕ)) (met : ℕ → Type 0) (inode : ℕ) : LayoutFault → ℕ → Type 0 where
  of_inode : IsBadInode g blocks inode → IsFirstHere g blocks met inode BadInode (table_block g inode)
  of_zone : (x : ZonePlace) → (IsBadInode g blocks inode → ⊥) → HasZones g blocks inode →
      ((y : ZonePlace) → rank y < rank x → zone_at_place g blocks inode y ≢ 0 → IsBadZone g blocks met inode y → ⊥) →
      zone_at_place g blocks inode x ≢ 0 → IsBadZone g blocks met inode x → IsFirstHere g blocks met inode BadZone (pointer_block_of g blocks inode x)
  of_slot : (place : ℕ) → (IsBadInode g blocks inode → ⊥) → IsDirectory g blocks inode →
      ((y : ZonePlace) → zone_at_place g blocks inode y ≢ 0 → IsBadZone g blocks met inode y → ⊥) →
      ((earlier : ℕ) → earlier < place → IsBadSlot g blocks met inode earlier → ⊥) →
      place < slots_of g blocks inode → IsBadSlot g blocks met inode place → IsFirstHere g blocks met inode BadSlot (slot_zone g blocks inode place)

-- The first fault of a volume: the inodes that come before have none, and in its inode it is the first.
pub record IsFirstFault (g : Geometry) (blocks : List (List ℕ)) (fault : LayoutFault) (block : ℕ) : Type 0 where
  pub met : List ℕ
  pub ahead : List ℕ
  pub inode : ℕ
  pub order : AreMet g blocks met (inode ∷ ahead)
  pub new : In inode met → ⊥
  pub before : AreFaultless g blocks (λ other. In other met)
  pub here : IsFirstHere g blocks (λ other. In other met) inode fault block
