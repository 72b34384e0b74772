-- A name that is taken out of its directory.
use Rattle.std.specs.Prelude.{◌≡◌, ◌<◌, ◌*◌, ◌^◌, ℕ, List, length, slice_set, Option, Some, None}
use Rattle.std.specs.List.Sorted.{IsStrictlySortedBy}
use Rattle.std.specs.Map.{keys_of}
use Rattle.minix_layout.specs.Widths.{IsWidth, slot_size}
use Rattle.minix_layout.specs.declared.slot.Slot.{Slot}
use Rattle.minix_tables.specs.directories.Slots.{place_of, NamesStandOnce}
use Rattle.tree_model.specs.Maps.{at_number, name_cmp}
use Rattle.tree_model.specs.laws.MapOrder.{InOrder}
use Rattle.volume_model.specs.Moves.{slot_put, without}
use Rattle.volume_model.specs.declared.placed.Placed.{Placed}
use Rattle.volume_model.specs.declared.placed.Part.TheVariants as parts
use Rattle.volume_model.specs.declared.placed.DirectoryPart.{DirectoryPart}
use Rattle.volume_steps.specs.Now.{VolumeNow, Change, with_contents}
use Rattle.volume_steps.specs.Plain.{IsInUse}
use Rattle.volume_steps.specs.Steps.{slot_told, tells_node}
use Rattle.volume_names.specs.removals.May.{HasName}

-- the directory without a name, and slot `at` is free
abbrev pub without_slot : DirectoryPart → ℕ → List ℕ → DirectoryPart
without_slot d at name = record { parent = d.parent; width = d.width; names = without d.names name; slots = slice_set d.slots at None }

-- slot k of a directory is written, and this is the directory then
abbrev pub slot_change : VolumeNow → ℕ → Placed → ℕ → Option Slot → DirectoryPart → Change
slot_change v n p k o next = record { volume = with_contents v (slot_put v.geometry v.contents n p k o next); touched = tells_node n (slot_told v p k next) }

-- A directory of this size has a slot of the name, in memory. What its blocks say is another matter.
pub record HasSlot (v : VolumeNow) (n : ℕ) (name : List ℕ) : Type 0 where
  pub order : InOrder v.contents.nodes
  pub width : IsWidth v.geometry.width
  pub placed : Placed
  pub part : DirectoryPart
  pub stands : at_number v.contents.nodes n ≡ Some placed
  pub is : placed.part ≡ parts.Directory part
  pub size : placed.inode.size ≡ slot_size v.geometry.width * length part.slots
  pub fits : placed.inode.size < 2 ^ 32
  pub once : NamesStandOnce part.slots
  pub place : ℕ
  pub has : place_of part.slots name ≡ Some place

-- the volume is in use, and this directory has the name
pub record CanTake (v : VolumeNow) (n : ℕ) (name : List ℕ) : Type 0 where
  pub in_use : IsInUse v
  pub birth : ℕ
  pub place : HasName v n name birth
  pub sorted : IsStrictlySortedBy name_cmp (keys_of place.part.names)
