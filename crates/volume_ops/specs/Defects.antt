-- What can be wrong with a volume, in no order, and the block at which each defect stands.
use Rattle.std.specs.Prelude.{◌≡◌, ◌≢◌, ℕ, ◌<◌, ◌≤◌, ◌⊎◌, List, Err}
use Rattle.minix_layout.specs.declared.division.Geometry.{Geometry}
use Rattle.minix_layout.specs.declared.slot.Slot.{Slot}
use Rattle.minix_layout.specs.declared.fault.LayoutFault.{LayoutFault}
use Rattle.minix_layout.specs.declared.fault.LayoutFault.TheVariants.{BadInode, BadZone, BadSlot}
use Rattle.volume_ops.specs.Places.{table_block}
use Rattle.volume_ops.specs.VolumeFields.{inode_at, slot_behind}
use Rattle.volume_ops.specs.ZonePlaces.{ZonePlace}
use Rattle.volume_ops.specs.Faultless.{IsDirectory, HasZones, zone_at_place, slots_of, NamesAt, IsReached}
use Rattle.volume_ops.specs.FirstFault.{pointer_block_of, slot_zone, IsBadInode}

-- A defect of what names lead to, and its block: the inode's block of the table, the block that holds the number
-- of the zone, or the zone of the slot.
pub data IsDefect (g : Geometry) (blocks : List (List ℕ)) : LayoutFault → ℕ → Type 0 where
  bad_inode : {inode : ℕ} → IsReached g blocks inode → IsBadInode g blocks inode → IsDefect g blocks BadInode (table_block g inode)
  zone_outside : {inode : ℕ} (x : ZonePlace) → IsReached g blocks inode → HasZones g blocks inode → zone_at_place g blocks inode x ≢ 0 →
      (zone_at_place g blocks inode x < g.first) ⊎ (g.zones ≤ zone_at_place g blocks inode x) → IsDefect g blocks BadZone (pointer_block_of g blocks inode x)
  zone_twice : {inode other : ℕ} (x y : ZonePlace) → IsReached g blocks inode → IsReached g blocks other → HasZones g blocks inode → HasZones g blocks other →
      zone_at_place g blocks inode x ≢ 0 → zone_at_place g blocks inode x ≡ zone_at_place g blocks other y → (inode ≡ other → x ≡ y → ⊥) →
      IsDefect g blocks BadZone (pointer_block_of g blocks inode x)
  slot_without_name : {inode : ℕ} (place : ℕ) → IsReached g blocks inode → IsDirectory g blocks inode → place < slots_of g blocks inode →
      slot_behind g blocks (inode_at g blocks inode) place ≡ Err BadSlot → IsDefect g blocks BadSlot (slot_zone g blocks inode place)
  slot_without_inode : {inode : ℕ} (place : ℕ) (slot : Slot) → IsReached g blocks inode → NamesAt g blocks inode place slot → g.inodes < slot.inode →
      IsDefect g blocks BadSlot (slot_zone g blocks inode place)
  name_twice : {inode : ℕ} (place other : ℕ) (slot more : Slot) → IsReached g blocks inode → NamesAt g blocks inode place slot → NamesAt g blocks inode other more →
      slot.name ≡ more.name → place ≢ other → IsDefect g blocks BadSlot (slot_zone g blocks inode place)
  root_named : {inode : ℕ} (place : ℕ) (slot : Slot) → IsReached g blocks inode → NamesAt g blocks inode place slot → slot.inode ≡ 1 →
      IsDefect g blocks BadSlot (slot_zone g blocks inode place)
  directory_twice : {inode other : ℕ} (place at : ℕ) (slot more : Slot) → IsReached g blocks inode → IsReached g blocks other → NamesAt g blocks inode place slot →
      NamesAt g blocks other at more → slot.inode ≡ more.inode → IsDirectory g blocks slot.inode → (inode ≡ other → place ≡ at → ⊥) →
      IsDefect g blocks BadSlot (slot_zone g blocks inode place)
