-- Directories that change in memory, before their blocks are written.
use Rattle.std.specs.Prelude.{◌≡◌, ℕ, List, codes, slice_set, Some}
use Rattle.minix_layout.specs.declared.slot.Slot.{Slot}
use Rattle.minix_tables.specs.directories.Slots.{room, with_slot, slots_led}
use Rattle.tree_model.specs.Maps.{at_number, put_number, put_name}
use Rattle.volume_model.specs.declared.placed.Placed.{Placed}
use Rattle.volume_model.specs.declared.placed.Part.{Part}
use Rattle.volume_model.specs.declared.placed.DirectoryPart.{DirectoryPart}
use Rattle.volume_steps.specs.Now.{VolumeNow, Change, with_contents}
use Rattle.volume_steps.specs.Steps.{at_directory, place_of}
use Rattle.volume_names.specs.removals.code.Naming.{HasSlot, slot_change}

-- a node is this part
abbrev pub node_put : List (ℕ × Placed) → ℕ → Placed → Part → List (ℕ × Placed)
node_put nodes n p part = put_number nodes n (record { number = p.number; inode = p.inode; part = part })

-- in memory alone
abbrev pub part_put : VolumeNow → ℕ → Placed → Part → VolumeNow
part_put v n p part = with_contents v (record { blocks = v.contents.blocks; nodes = node_put v.contents.nodes n p part })

-- a name leads to a node
abbrev pub name_put : DirectoryPart → List ℕ → ℕ → DirectoryPart
name_put d name birth = record { parent = d.parent; width = d.width; names = put_name d.names name birth; slots = d.slots }

-- a slot comes, at the first free place or behind the last one
abbrev pub slot_put_in : DirectoryPart → Slot → DirectoryPart
slot_put_in d s = record { parent = d.parent; width = d.width; names = d.names; slots = with_slot d.slots (room d.slots) s }

-- a directory has another parent
abbrev pub turned : DirectoryPart → ℕ → DirectoryPart
turned d parent = record { parent = parent; width = d.width; names = d.names; slots = d.slots }

-- the slot at a place leads to another inode
abbrev pub led_at : DirectoryPart → ℕ → ℕ → DirectoryPart
led_at d at inode = record { parent = d.parent; width = d.width; names = d.names; slots = slots_led d.slots at inode }

-- the slot of a name is this one
abbrev pub slot_set : DirectoryPart → Slot → DirectoryPart
slot_set d s = record { parent = d.parent; width = d.width; names = d.names; slots = slice_set d.slots (place_of s.name d.slots) (Some s) }

-- and its block says so
abbrev pub slot_led : VolumeNow → ℕ → Slot → Change
slot_led v n s = at_directory v n (λ p d. slot_change v n p (place_of s.name d.slots) (Some s) (slot_set d s))

-- a directory of a volume has a slot for its parent, which has this inode
pub record MayTurn (v : VolumeNow) (n parent above : ℕ) : Type 0 where
  pub slot : HasSlot v n (codes "..")
  pub second : slot.place ≡ 1
  pub placed : Placed
  pub stands : at_number v.contents.nodes parent ≡ Some placed
  pub number : placed.number ≡ above
