-- A node that gets another name in its directory.
use Rattle.std.specs.Prelude.{◌≡◌, ◌≢◌, ◌<◌, ◌+◌, ℕ, nat_le, nat_lt, is_some, Bool, true, false, not, ◌&&◌, if◌then◌else◌, List, length, Option, Some, None, refl}
use Rattle.std.specs.List.{slice_get}
use Rattle.std.specs.List.Sorted.{IsStrictlySortedBy}
use Rattle.std.specs.Map.{keys_of}
use Rattle.std.proofs.Common.{sym, ap, subst, ◌∙◌, inl, inr, arith}
use Rattle.std.proofs.lemmas.Bool.{cases_Bool, lt-ltb, ltb-true, ltb-false}
use Rattle.std.proofs.lemmas.Option.{get_or_from_slice_get, same_Some, none-some}
use Rattle.blk_base.specs.laws.Members.{slice_get-set_same, slice_get-length}
use Rattle.minix_layout.specs.Widths.{most_slots}
use Rattle.minix_layout.specs.declared.slot.Slot.{Slot}
use Rattle.minix_tables.specs.directories.Slots.{place_of, room, used_count}
use Rattle.minix_tables.specs.directories.laws.Edited.{least_room}
use Rattle.minix_tables.specs.directories.laws.Slots.{room-count}
use Rattle.tree_model.specs.Calls.{directory_zones, needs_slot, slots_with}
use Rattle.tree_model.specs.Maps.{at_number, at_name, name_cmp}
use Rattle.tree_model.specs.laws.MapsLaws.{at_put_number, at_put_number_apart}
use Rattle.tree_model.proofs.Hanging.{IsGoodName}
use Rattle.volume_model.specs.declared.placed.Placed.{Placed}
use Rattle.volume_model.specs.declared.placed.Part.TheVariants as parts
use Rattle.volume_model.specs.declared.placed.DirectoryPart.{DirectoryPart}
use Rattle.volume_model.specs.Trees.{directory_from}
use Rattle.volume_model.specs.Volume.{HasNames}
use Rattle.volume_model.specs.Moves.{with_name}
use Rattle.volume_steps.specs.Now.{VolumeNow, Change, followed_by}
use Rattle.volume_steps.specs.Plain.{IsInUse}
use Rattle.volume_steps.specs.Steps.{take_name, add_name, place_of as place_in_slots}
use Rattle.volume_steps.specs.Calls.{move_in}
use Rattle.volume_steps.proofs.CallPaths.{good_no_dot, good_entry}
use Rattle.volume_steps.proofs.Files.{put_twice}
use Rattle.volume_steps.proofs.NodeSteps.{IsSettled, AreSlotted}
use Rattle.volume_steps.proofs.PlainNow.{settled_before, slotted_before}
use Rattle.volume_names.specs.declared.directories.NewSlot.{NewSlot}
use Rattle.volume_names.specs.code.NewSlot.{new_slot}
use Rattle.volume_names.specs.code.Steps.{MayWrite, entered_in, name_written}
use Rattle.volume_names.proofs.Changed.{volume_of}
use Rattle.volume_names.proofs.Creates.{no_slot}
use Rattle.volume_names.proofs.NameRooms.{NameRoom, wide, may_write}
use Rattle.volume_names.proofs.Named.{named}
use Rattle.volume_names.specs.removals.code.Naming.{CanTake, HasSlot}
use Rattle.volume_names.proofs.RemovalsLemmas.NameTaken.{has_slot, slot, taken_slot, takes_slot}
use Rattle.volume_names.proofs.RemovalsLemmas.Taken.{names_sorted, less, less_is, less_in_use, less_settled, less_slotted}
use Rattle.volume_names.specs.renames.May.{MayMoveWithin}
use Rattle.volume_names.specs.renames.code.Parts.{node_put, part_put, name_put, slot_put_in}
use Rattle.volume_names.proofs.RenamesLemmas.Across.{told_after}
use Rattle.volume_names.proofs.RenamesLemmas.NameMaps.{still_none}
use Rattle.volume_names.proofs.RenamesLemmas.Taking.{slot_over_names, takes_named, left, left_node}

-- ---- a directory of which a slot is free

free_room : (slots : List (Option Slot)) (k : ℕ) → slice_get slots k ≡ Some None → k < length slots → room slots < length slots
free_room slots k free low = elim (cases_Bool (nat_lt k (room slots))) [
  | inl t ↦ absurd (least_room slots k (ltb-true _ _ t) (get_or_from_slice_get slots k None None free))
  | inr f ↦ (let high = ltb-false _ _ f in omega arith)
]

-- needs none for a name more
no_need : (d : DirectoryPart) → used_count d.slots ≡ 2 + length d.names → room d.slots < length d.slots → needs_slot (directory_from d) ≡ false
no_need d count free = (let fewer = room-count d.slots free in ap not (lt-ltb (length d.names + 2) (length d.slots) (omega arith)))

same_slots : (b : Bool) (n : Bool) (k : ℕ) → n ≡ false → (if b && n then k + 1 else k) ≡ k
same_slots true n k e = ap (λ (n : Bool). if n then k + 1 else k) e
same_slots false n k e = refl

module _ (v : VolumeNow) (n : ℕ) (name other : List ℕ) (birth : ℕ) (h : MayMoveWithin v n name other birth) where
  abbrev d : DirectoryPart
  d = h.leaves.place.part

  abbrev child : Placed
  child = h.leaves.child

  abbrev takes : CanTake v n name
  takes = record {
    in_use = h.leaves.plain.in_use;
    birth = birth;
    place = h.leaves.place;
    sorted = names_sorted v h.leaves.plain n name birth h.leaves.place;
  }

  abbrev before : HasSlot v n name
  before = has_slot v n name takes

  abbrev s : Slot
  s = record { inode = child.number; name = other }

  -- ---- the old name goes

  abbrev first : Change
  first = taken_slot v n name before

  abbrev D : DirectoryPart
  D = left v n name before

  abbrev Q : Placed
  Q = left_node v n name before

  same : less v n name takes ≡ first
  same = sym (less_is v n name takes) ∙ takes_slot v n name before

  in_use : IsInUse first.volume
  in_use = subst (λ (c : Change). IsInUse c.volume) same (less_in_use v n name takes)

  settled : IsSettled first.volume.contents
  settled = subst (λ (c : Change). IsSettled c.volume.contents) same (less_settled v n name takes (settled_before v h.leaves.plain))

  slotted : AreSlotted v.geometry (λ a. ⊥) first.volume.contents
  slotted = subst (λ (c : Change). AreSlotted v.geometry (λ a. ⊥) c.volume.contents) same (less_slotted v n name takes (slotted_before v h.leaves.plain))

  stands : at_number first.volume.contents.nodes n ≡ Some Q
  stands = at_put_number v.contents.nodes n Q

  child_stands : at_number first.volume.contents.nodes birth ≡ Some child
  child_stands = at_put_number_apart v.contents.nodes n Q birth h.leaves.apart ∙ h.leaves.stands

  names : HasNames first.volume.contents.nodes D
  names = in_use.volume.0.names n Q D stands refl

  sorted : IsStrictlySortedBy name_cmp (keys_of d.names)
  sorted = names_sorted v h.leaves.plain n name birth h.leaves.place

  abbrev k : ℕ
  k = place_in_slots name d.slots

  freed : slice_get D.slots k ≡ Some None
  freed = slice_get-set_same d.slots k None (slice_get-length d.slots k (Some (slot v n name before).slot) (slot v n name before).stands)

  has_room : room D.slots < length D.slots
  has_room = free_room D.slots k freed (slice_get-length D.slots k None freed)

  no_slot_needed : needs_slot (directory_from D) ≡ false
  no_slot_needed = no_need D names.count has_room

  free : at_name D.names other ≡ None
  free = still_none d.names name other sorted h.free

  good : IsGoodName other
  good = record { plain = h.word }

  kept_slots : slots_with (directory_from D) other ≡ length D.slots
  kept_slots = same_slots (not (is_some (at_name D.names other))) (needs_slot (directory_from D)) (length D.slots) no_slot_needed

  abbrev place : NameRoom first.volume n other birth
  place = record {
    in_use = in_use;
    placed = Q;
    stands = stands;
    part = D;
    is = refl;
    child = child;
    at_child = child_stands;
    apart = h.leaves.apart;
    free = free;
    no_dot = good_no_dot other good;
    entry = good_entry v.geometry.width other child.number h.leaves.plain.in_use.sound.width good h.short (h.leaves.plain.in_use.volume.0.each birth child h.leaves.stands).some
        (let within = (h.leaves.plain.in_use.volume.0.each birth child h.leaves.stands).within in let fit = h.leaves.plain.in_use.sound.fits.inodes in omega arith);
    settled = settled;
    slotted = slotted;
    left = ap (λ needs. needs && nat_le (most_slots D.width) (length D.slots)) no_slot_needed;
    enough = (let same = ap (directory_zones D.width) kept_slots in omega arith);
  }

  -- ---- in memory

  module _ (nodes : List (ℕ × Placed)) (nodes_are : (p : Placed) (e : DirectoryPart) → at_number v.contents.nodes n ≡ Some p → p.part ≡ parts.Directory e → nodes ≡ node_put v.contents.nodes n p (parts.Directory (name_put e other birth))) where
    abbrev pub named_volume : VolumeNow
    named_volume = volume_of v.geometry v.contents.blocks nodes v.zones

    named_is : named_volume ≡ part_put v n before.placed (parts.Directory (name_put d other birth))
    named_is = ap (λ nodes. volume_of v.geometry v.contents.blocks nodes v.zones) (nodes_are before.placed d before.stands before.is)

    pub may_take : HasSlot named_volume n name
    may_take = subst (λ u. HasSlot u n name) (sym named_is) (slot_over_names v n name before d.parent (name_put d other birth).names)

    apart : name ≢ other
    apart e = none-some birth (sym h.free ∙ (ap (at_name d.names) (sym e) ∙ h.leaves.place.named))

    abbrev R : Placed
    R = record { number = Q.number; inode = Q.inode; part = parts.Directory (name_put D other birth) }

    abbrev mid : VolumeNow
    mid = part_put first.volume n Q (parts.Directory (name_put D other birth))

    taken_is : take_name named_volume n name ≡ record { volume = mid; touched = first.touched }
    taken_is = ap (λ u. take_name u n name) named_is ∙ takes_named v n name before other birth sorted apart

    module _ (w : VolumeNow) (w_is : w ≡ (take_name named_volume n name).volume) where
      w_as : w ≡ mid
      w_as = w_is ∙ ap (λ (c : Change). c.volume) taken_is

      here : at_number w.contents.nodes n ≡ Some R
      here = ap (λ (w : VolumeNow). at_number w.contents.nodes n) w_as ∙ at_put_number first.volume.contents.nodes n R

      same_part : (p : Placed) (e : DirectoryPart) → at_number w.contents.nodes n ≡ Some p → p.part ≡ parts.Directory e → name_put D other birth ≡ e
      same_part p e at is = (let one : parts.Directory (name_put D other birth) ≡ parts.Directory e = ap (λ (p : Placed). p.part) (same_Some R p (sym here ∙ at)) ∙ is in cc one)

      -- what a slot that comes asks
      pub is_directory : (p : Placed) → at_number w.contents.nodes n ≡ Some p → (e : DirectoryPart) × (p.part ≡ parts.Directory e)
      is_directory p at = (name_put D other birth, ap (λ (p : Placed). p.part) (sym (same_Some R p (sym here ∙ at))))

      pub is_there : at_number w.contents.nodes n ≡ None → ⊥
      is_there none = none-some R (sym none ∙ here)

      pub is_free : (p : Placed) (e : DirectoryPart) → at_number w.contents.nodes n ≡ Some p → p.part ≡ parts.Directory e → room e.slots < length e.slots
      is_free p e at is = subst (λ (e : DirectoryPart). room e.slots < length e.slots) (same_part p e at is) has_room

      pub is_new : (made : Slot) → made.name ≡ other → (p : Placed) (e : DirectoryPart) → at_number w.contents.nodes n ≡ Some p → p.part ≡ parts.Directory e → place_of e.slots made.name ≡ None
      is_new made same p e at is =
          ap (place_of e.slots) same
          ∙ (ap (λ (e : DirectoryPart). place_of e.slots other) (sym (same_part p e at is)) ∙ no_slot first.volume.contents.nodes D other names (good_no_dot other good) free)

      module _ (made : Slot) (slot_is : made ≡ s) (later : List (ℕ × Placed))
          (later_are : (p : Placed) (e : DirectoryPart) → at_number w.contents.nodes n ≡ Some p → p.part ≡ parts.Directory e → later ≡ node_put w.contents.nodes n p (parts.Directory (slot_put_in e made)))
          (at : NewSlot) (at_are : (p : Placed) (e : DirectoryPart) → at_number w.contents.nodes n ≡ Some p → p.part ≡ parts.Directory e → at ≡ new_slot e made) where
        abbrev pub last : VolumeNow
        last = volume_of w.geometry w.contents.blocks later w.zones

        abbrev whole : VolumeNow
        whole = entered_in first.volume n Q D s birth

        last_is : last ≡ whole
        last_is =
            ap (λ later. volume_of w.geometry w.contents.blocks later w.zones) (later_are R (name_put D other birth) here refl ∙ ap (λ made. node_put w.contents.nodes n R (parts.Directory (slot_put_in (name_put D other birth) made))) slot_is)
            ∙ (ap (λ (w : VolumeNow). part_put w n R (parts.Directory (slot_put_in (name_put D other birth) s))) w_as
            ∙ ap (λ nodes. volume_of first.volume.geometry first.volume.contents.blocks nodes first.volume.zones)
            (put_twice first.volume.contents.nodes n R (record { number = Q.number; inode = Q.inode; part = parts.Directory (with_name D s birth) }) in_use.volume.0.in_order))

        at_is : at ≡ new_slot D s
        at_is = at_are R (name_put D other birth) here refl ∙ ap (new_slot (name_put D other birth)) slot_is

        pub may_be_written : MayWrite last n made at
        may_be_written = subst (λ u. MayWrite u n made at) (sym last_is) (subst (λ made. MayWrite whole n made at) (sym slot_is) (subst (MayWrite whole n s) (sym at_is) (may_write first.volume n other birth place)))

        -- the call as the code does it
        pub moved : followed_by (take_name named_volume n name) (λ w. name_written last n made at) ≡ move_in v n name n other birth
        moved =
            ap (λ c. followed_by c (λ w. name_written last n made at)) taken_is
            ∙ (ap (told_after first.touched)
            (ap (λ last. name_written last n made at) last_is
            ∙ (ap (λ made. name_written whole n made at) slot_is
            ∙ (ap (name_written whole n s) at_is ∙ named first.volume n Q D other birth child in_use.volume.0.in_order stands refl child_stands h.leaves.apart (wide first.volume n other birth place))))
            ∙ sym (ap (λ c. followed_by c (λ w. add_name w n other birth)) (takes_slot v n name before)))
