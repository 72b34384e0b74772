-- A volume in which a name may come, in the midst of a call.
use Rattle.std.specs.Prelude.{◌≡◌, ◌≢◌, ◌<◌, ◌≤◌, ◌+◌, ◌/◌, ◌%◌, ◌&&◌, ℕ, nat_eq, true, false, Bool, List, map, length, Some, None, refl}
use Rattle.std.proofs.Common.{sym, ap, subst, ◌∙◌, arith, eqb-true}
use Rattle.std.proofs.lemmas.Bool.{ne_eqb, true≢false}
use Rattle.minix_layout.specs.Widths.{slots_a_block, most_slots}
use Rattle.minix_layout.specs.declared.slot.Slot.{Slot}
use Rattle.minix_layout.specs.Slots.{IsEntry}
use Rattle.tree_model.specs.Calls.{directory_zones, is_full, slots_with}
use Rattle.tree_model.specs.Maps.{at_number, at_name, put_name}
use Rattle.tree_model.specs.laws.MapsLaws.{at_put_number}
use Rattle.tree_model.specs.Paths.{is_dot}
use Rattle.minix_tables.specs.directories.Slots.{room, with_slot}
use Rattle.minix_tables.specs.directories.laws.Slots.{length-with_slot, length-with_slot_more}
use Rattle.volume_model.specs.declared.placed.Placed.{Placed}
use Rattle.volume_model.specs.declared.placed.Part.TheVariants as parts
use Rattle.volume_model.specs.declared.placed.DirectoryPart.{DirectoryPart}
use Rattle.volume_model.specs.Trees.{directory_from}
use Rattle.volume_model.specs.Volume.{IsPart, IsDirectoryPart, block}
use Rattle.volume_model.specs.Moves.{opened}
use Rattle.volume_model.specs.MapBlock.{own_of}
use Rattle.volume_steps.specs.Now.{VolumeNow, written}
use Rattle.volume_steps.specs.Zones.{zone_bit, take_zones}
use Rattle.volume_steps.specs.Plain.{IsInUse}
use Rattle.volume_steps.proofs.Taking.{frees}
use Rattle.volume_steps.proofs.TakeZones.{numbers_are_zones}
use Rattle.volume_steps.proofs.Bits.{bits_none, kept_zone}
use Rattle.volume_steps.proofs.NodeSteps.{IsSettled, AreSlotted}
use Rattle.volume_steps.proofs.AddNames.{Where, among, behind, where_is, hole, plenty}
use Rattle.volume_names.specs.code.NewSlot.{new_slot}
use Rattle.volume_names.specs.code.Steps.{HasHole, MayWrite, entered_in}

-- the directory n may get this name for the node with this birth
pub record NameRoom (v : VolumeNow) (n : ℕ) (name : List ℕ) (birth : ℕ) : Type 0 where
  pub in_use : IsInUse v
  pub placed : Placed
  pub stands : at_number v.contents.nodes n ≡ Some placed
  pub part : DirectoryPart
  pub is : placed.part ≡ parts.Directory part
  pub child : Placed
  pub at_child : at_number v.contents.nodes birth ≡ Some child
  pub apart : birth ≢ n
  pub free : at_name part.names name ≡ None
  pub no_dot : is_dot name ≡ false
  pub entry : IsEntry v.geometry.width (record { inode = child.number; name = name })
  pub settled : IsSettled v.contents
  pub slotted : AreSlotted v.geometry (λ a. ⊥) v.contents
  pub left : is_full (directory_from part) ≡ false
  pub enough : directory_zones part.width (slots_with (directory_from part) name) ≤ directory_zones part.width (length part.slots) + frees v.zones

pub and_first : (a b : Bool) → (a && b) ≡ true → a ≡ true
and_first true b e = refl
and_first false b e = absurd (true≢false (sym e))

pub and_second : (a b : Bool) → (a && b) ≡ true → b ≡ true
and_second true b e = e
and_second false b e = absurd (true≢false (sym e))

module _ (v : VolumeNow) (n : ℕ) (name : List ℕ) (birth : ℕ) (h : NameRoom v n name birth) where
  abbrev pub slot : Slot
  slot = record { inode = h.child.number; name = name }

  -- the directory has the volume's width
  pub wide : h.part.width ≡ v.geometry.width
  wide = (let part : IsDirectoryPart v.geometry v.contents.blocks h.placed.inode h.part = subst (IsPart v.geometry v.contents.blocks h.placed.inode) h.is (h.in_use.volume.0.each n h.placed h.stands).part in part.width)

  place : Where h.part name
  place = where_is v.contents.nodes h.part name (h.in_use.volume.0.names n h.placed h.part h.stands h.is) h.free h.left

  few : length h.part.slots ≤ most_slots v.geometry.width
  few = (h.slotted n h.placed h.part h.stands h.is (λ z. z)).few

  abbrev index : ℕ
  index = length h.part.slots / slots_a_block v.geometry.width

  -- the block that begins with the slot
  no_zone : room h.part.slots ≡ length h.part.slots → length h.part.slots < most_slots v.geometry.width → length h.part.slots % slots_a_block v.geometry.width ≡ 0 → slots_with (directory_from h.part) name ≡ length h.part.slots + 1 → HasHole v h.placed index
  no_zone all less whole more =
      let much = plenty 0 v h.in_use n h.placed h.stands h.part h.is name birth h.child h.at_child h.apart h.free h.no_dot h.entry h.settled h.slotted h.left h.enough all less whole more in
      record {
        nine = (h.in_use.volume.0.each n h.placed h.stands).fits.nine;
        hole =
            kept_zone v.geometry v.contents h.in_use.volume
            (written v.geometry v.contents (map (zone_bit v.geometry true) (take_zones (own_of (opened v.contents h.placed)) index v.zones).numbers)).blocks
            (bits_none v.geometry h.in_use.sound v.contents h.in_use.volume true (take_zones (own_of (opened v.contents h.placed)) index v.zones).numbers (numbers_are_zones v h.in_use h.placed.inode index much))
            n h.placed h.stands (block index)
            ∙ hole 0 v h.in_use n h.placed h.stands h.part h.is name birth h.child h.at_child h.apart h.free h.no_dot h.entry h.settled h.slotted h.left h.enough all less whole more;
      }

  abbrev pub after : VolumeNow
  after = entered_in v n h.placed h.part slot birth

  abbrev now : Placed
  now = record { number = h.placed.number; inode = h.placed.inode; part = parts.Directory (record { parent = h.part.parent; width = h.part.width; names = put_name h.part.names name birth; slots = with_slot h.part.slots (room h.part.slots) slot }) }

  few_of : length h.part.slots < most_slots h.part.width → length h.part.slots < most_slots v.geometry.width
  few_of less = subst (λ width. length h.part.slots < most_slots width) wide less

  -- what the code asks for
  pub may_write : MayWrite after n slot (new_slot h.part slot)
  may_write = by place
    where
      by : Where h.part name → MayWrite after n slot (new_slot h.part slot)
      by (among low e) = record {
        sound = h.in_use.sound;
        placed = now;
        stands = at_put_number v.contents.nodes n now;
        number = (h.in_use.volume.0.each n h.placed h.stands).some;
        short = h.entry.short;
        place = (let all = few in omega arith);
        few = (let all = few in let same = length-with_slot h.part.slots (room h.part.slots) slot low in omega arith);
        hole = λ begins. absurd (true≢false (sym (and_first _ _ begins) ∙ ne_eqb (room h.part.slots) (length h.part.slots) (λ same. (omega arith))));
      }
      by (behind all e less) = record {
        sound = h.in_use.sound;
        placed = now;
        stands = at_put_number v.contents.nodes n now;
        number = (h.in_use.volume.0.each n h.placed h.stands).some;
        short = h.entry.short;
        place = (let low = few_of less in omega arith);
        few = (let low = few_of less in let more = length-with_slot_more h.part.slots (room h.part.slots) slot all in omega arith);
        hole = λ begins.
            let begun = eqb-true (length h.part.slots % slots_a_block h.part.width) 0 (and_second (nat_eq (room h.part.slots) (length h.part.slots)) _ begins) in
            let there = no_zone all (few_of less) (ap (λ width. length h.part.slots % slots_a_block width) (sym wide) ∙ begun) e in
            subst (λ k. HasHole after now (k / slots_a_block v.geometry.width)) (sym all) (record { nine = there.nine; hole = there.hole });
      }
