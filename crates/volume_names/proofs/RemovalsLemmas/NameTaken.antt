-- A name that goes out of its directory: what the code did is the step.
use Rattle.std.specs.Prelude.{◌≡◌, ◌≢◌, ◌*◌, ◌/◌, ◌%◌, ◌<◌, ◌^◌, ℕ, length, List, [], ◌∷◌, Option, Some, None, refl}
use Rattle.std.specs.BTreeMap.{is_at}
use Rattle.std.specs.List.{slice_get}
use Rattle.std.specs.Map.{set_value}
use Rattle.std.specs.Ordering.{nat_cmp}
use Rattle.std.proofs.Common.{sym, ap, subst, ◌∙◌, arith}
use Rattle.std.proofs.lemmas.List.{length-set}
use Rattle.std.proofs.lemmas.Option.{same_Some, none-some}
use Rattle.blk_base.specs.laws.Members.{slice_get-length}
use Rattle.minix_layout.specs.Widths.{slot_size, slots_a_block}
use Rattle.minix_layout.specs.laws.Places.{IsForm, narrow, wide, form_is}
use Rattle.minix_tables.specs.directories.Slots.{place_of}
use Rattle.minix_tables.specs.directories.laws.Found.{found, no_slot}
use Rattle.minix_layout.specs.declared.slot.Slot.{Slot}
use Rattle.tree_model.specs.Maps.{at_number}
use Rattle.volume_model.specs.declared.placed.Placed.{Placed}
use Rattle.volume_model.specs.declared.placed.Part.TheVariants as parts
use Rattle.volume_model.specs.declared.placed.DirectoryPart.{DirectoryPart}
use Rattle.volume_model.specs.Edits.{put_slot, edited}
use Rattle.volume_model.specs.Volume.{block, zone_in, HasNames, IsPart, IsDirectoryPart}
use Rattle.volume_model.specs.Moves.{name_removed, without_name}
use Rattle.volume_model.specs.Touched.{Touched, and_then}
use Rattle.volume_steps.specs.Now.{VolumeNow, Change, with_contents, unchanged}
use Rattle.volume_steps.specs.Steps.{take_name, tells_node, place_of as place_in_slots, slot_told}
use Rattle.volume_steps.proofs.NameSteps.{NameStands, place_found}
use Rattle.volume_steps.proofs.QuietSteps.{at_directory_is}
use Rattle.volume_names.specs.code.Steps.{After}
use Rattle.volume_names.proofs.Changed.{volume_of}
use Rattle.volume_names.specs.removals.code.Naming.{CanTake, HasSlot, slot_change, without_slot}
use Rattle.volume_names.proofs.RemovalsLemmas.SlotWritten.{slot_is_written}

-- a place of a directory lies in a block that a number of 32 bits tells
place_small : (size per : ℕ) → IsForm size per → (at slots bytes : ℕ) → at < slots → bytes ≡ size * slots → bytes < 2 ^ 32 → at / per < 2 ^ 32
place_small size per narrow at slots bytes low is fits = omega arith
place_small size per wide at slots bytes low is fits = omega arith

-- a directory of a volume in use has a slot for each of its names
module _ (v : VolumeNow) (n : ℕ) (name : List ℕ) (h : CanTake v n name) where
  pub taken_names : HasNames v.contents.nodes h.place.part
  taken_names = h.in_use.volume.0.names n h.place.placed h.place.part h.place.stands h.place.is

  pub taken_part : IsDirectoryPart v.geometry v.contents.blocks h.place.placed.inode h.place.part
  taken_part = subst (IsPart v.geometry v.contents.blocks h.place.placed.inode) h.place.is (h.in_use.volume.0.each n h.place.placed h.place.stands).part

  pub somewhere : (at : ℕ) × (place_of h.place.part.slots name ≡ Some at)
  somewhere = by (place_of h.place.part.slots name) refl
    where
      by : (o : Option ℕ) → place_of h.place.part.slots name ≡ o → (at : ℕ) × (place_of h.place.part.slots name ≡ Some at)
      by None none = absurd (let s = taken_names.named name h.birth h.place.named in no_slot h.place.part.slots name none s.place s.slot s.stands s.name_is)
      by (Some at) is = (at, is)

  abbrev pub has_slot : HasSlot v n name
  has_slot = record {
    order = h.in_use.volume.0.in_order;
    width = h.in_use.sound.width;
    placed = h.place.placed;
    part = h.place.part;
    stands = h.place.stands;
    is = h.place.is;
    size = taken_part.size;
    fits = (h.in_use.volume.0.each n h.place.placed h.place.stands).fits.size;
    once = taken_names.once;
    place = somewhere.0;
    has = somewhere.1;
  }

module _ (v : VolumeNow) (n : ℕ) (name : List ℕ) (h : HasSlot v n name) where
  abbrev p : Placed
  p = h.placed

  abbrev d : DirectoryPart
  d = h.part

  -- what stands at the birth is this directory
  pub same_node : (q : Placed) → at_number v.contents.nodes n ≡ Some q → p ≡ q
  same_node q at = same_Some p q (sym h.stands ∙ at)

  pub same_part : (q : Placed) (e : DirectoryPart) → at_number v.contents.nodes n ≡ Some q → q.part ≡ parts.Directory e → d ≡ e
  same_part q e at is = (let one : parts.Directory d ≡ parts.Directory e = sym h.is ∙ (ap (λ (p : Placed). p.part) (same_node q at) ∙ is) in cc one)

  pub stands_somewhere : place_of d.slots name ≢ None
  stands_somewhere none = none-some h.place (sym none ∙ h.has)

  -- the name's slot
  pub slot : NameStands d.slots name
  slot = (let f = found d.slots name h.place h.has in place_found d.slots name h.place f.0 f.1 f.2)

  pub same_place : (at : ℕ) → place_of d.slots name ≡ Some at → at ≡ place_in_slots name d.slots
  same_place at e = (let f = found d.slots name at e in h.once at (place_in_slots name d.slots) f.0 slot.slot f.1 slot.stands (f.2 ∙ sym slot.name_is))

  -- it lies in a block that a number of 32 bits tells
  pub place_fits : (at : ℕ) → place_of d.slots name ≡ Some at → at / slots_a_block v.geometry.width < 2 ^ 32
  place_fits at e =
      let low = slice_get-length d.slots at (Some (found d.slots name at e).0) (found d.slots name at e).1 in
      place_small (slot_size v.geometry.width) (slots_a_block v.geometry.width) (form_is v.geometry.width) at (length d.slots) p.inode.size low h.size h.fits

  abbrev k : ℕ
  k = place_in_slots name d.slots

  abbrev pub taken_slot : Change
  taken_slot = slot_change v n p k None (without_slot d k name)

  -- the name goes by a write of its slot
  pub takes_slot : take_name v n name ≡ taken_slot
  takes_slot =
      at_directory_is v n p d (λ p d. elim (slice_get d.slots (place_in_slots name d.slots)) as (λ _. Change) [ None ↦ unchanged v | Some o ↦ by p d o ]) h.stands h.is
      ∙ (ap (λ (o : Option (Option Slot)). elim o as (λ _. Change) [ None ↦ unchanged v | Some o ↦ by p d o ]) slot.stands
      ∙ ap (λ name. slot_change v n p k None (without_slot d k name)) slot.name_is)
    where
      by : Placed → DirectoryPart → Option Slot → Change
      by p d None = unchanged v
      by p d (Some s) = record {
        volume = with_contents v (name_removed v.geometry v.contents n p d (place_in_slots name d.slots) s);
        touched = tells_node n (slot_told v p (place_in_slots name d.slots) (without_name d (place_in_slots name d.slots) s));
      }

  -- ---- of what was found at the birth

  module _ (q : Placed) (e : DirectoryPart) (found : at_number v.contents.nodes n ≡ Some q) (is : q.part ≡ parts.Directory e) where
    pub place_in : (at : ℕ) → place_of e.slots name ≡ Some at → at / slots_a_block v.geometry.width < 2 ^ 32
    place_in at place = place_fits at (ap (λ (d : DirectoryPart). place_of d.slots name) (same_part q e found is) ∙ place)

    pub taken_at : (at zone : ℕ) (after : DirectoryPart) (first : List (List ℕ)) (nodes : List (ℕ × Placed)) (before touched : Touched) → place_of e.slots name ≡ Some at → after ≡ without_slot e at name →
        zone ≡ zone_in v.contents.blocks q.inode (block (at / slots_a_block v.geometry.width)) → first ≡ edited v.geometry v.contents.blocks (put_slot zone (at % slots_a_block v.geometry.width) None) →
        nodes ≡ set_value (is_at (nat_cmp n)) v.contents.nodes (record { number = q.number; inode = q.inode; part = parts.Directory after }) →
        touched ≡ and_then before (tells_node n (zone ∷ [])) → After before (take_name v n name) (volume_of v.geometry first nodes v.zones) touched
    taken_at at zone after first nodes before touched place after_is zone_is first_is set told =
        let same = sym (same_node q found) in
        let part = sym (same_part q e found is) in
        let here = same_place at (ap (λ (d : DirectoryPart). place_of d.slots name) (sym part) ∙ place) in
        subst (λ c. After before c (volume_of v.geometry first nodes v.zones) touched) (sym takes_slot)
        (slot_is_written v n p d h.order h.stands h.size k None (without_slot d k name) (length-set d.slots k None) zone after first nodes before touched
        (after_is ∙ (λ i. without_slot (part i) (here i) name))
        (zone_is ∙ (λ i. zone_in v.contents.blocks (same i).inode (block (here i / slots_a_block v.geometry.width))))
        (first_is ∙ ap (λ at. edited v.geometry v.contents.blocks (put_slot zone (at % slots_a_block v.geometry.width) None)) here)
        (set ∙ ap (λ (p : Placed). set_value (is_at (nat_cmp n)) v.contents.nodes (record { number = p.number; inode = p.inode; part = parts.Directory after })) same)
        told)
