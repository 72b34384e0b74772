-- What is found among slots after a name came or went.
use Rattle.std.specs.Prelude.{◌≡◌, ◌≢◌, ℕ, zero, suc, ◌+◌, ◌<◌, nat_lt, false, List, [], ◌∷◌, ◌++◌, length, take, slice_set, Option, Some, None, refl, ◌⊎◌}
use Rattle.std.specs.List.{slice_get}
use Rattle.std.proofs.Common.{sym, ap, ◌∙◌, inl, inr, arith}
use Rattle.std.proofs.lemmas.Bool.{cases_Bool, cases_eq, lt-ltb, ltb-true, ltb-false}
use Rattle.std.proofs.lemmas.Option.{none-some, same_Some, get_or_from_slice_get}
use Rattle.std.proofs.lemmas.List.{get_or_past, get_or-set_other, get_or-set_same, length-set, length_push, take_all}
use Rattle.std.proofs.lemmas.Grind.{common_steps}
use Rattle.blk_base.specs.laws.Members.{slice_get-set_same, slice_get-set_other, slice_get-length}
use Rattle.minix_layout.specs.declared.slot.Slot.{Slot}
use Rattle.minix_tables.specs.directories.Slots.{room, with_slot, reserved, used_count, slot_at, has_name, place_of, freed, slots_without, NamesStandOnce}
use Rattle.minix_tables.specs.directories.laws.Slots.{room-within, with_slot-here, with_slot-other, free-count}
use Rattle.minix_tables.specs.directories.laws.Found.{has_name-same, has_name-other, placed, at_place, no_place, same_place, found, no_slot}

-- ---- the place of a new slot

pub free_room : (slots : List (Option Slot)) → slot_at slots (room slots) ≡ None
free_room [] = refl
free_room (None ∷ slots) = refl
free_room (Some s ∷ slots) = free_room slots

pub least_room : (slots : List (Option Slot)) (at : ℕ) → at < room slots → slot_at slots at ≢ None
least_room [] at low e = absurd (omega arith)
least_room (None ∷ slots) at low e = absurd (omega arith)
least_room (Some s ∷ slots) zero low e = none-some s (sym e)
least_room (Some s ∷ slots) (suc at) low e = least_room slots at (omega arith) e

-- ---- a slot that was reserved

kept_room : (slots : List (Option Slot)) → room slots ≡ length slots → room (slots ++ None ∷ []) ≡ length slots
kept_room [] e = refl
kept_room (None ∷ slots) e = absurd (omega arith)
kept_room (Some s ∷ slots) e = ap suc (kept_room slots (omega arith))

set_last : (slots : List (Option Slot)) (x y : Option Slot) → slice_set (slots ++ x ∷ []) (length slots) y ≡ slots ++ y ∷ []
set_last [] x y = refl
set_last (o ∷ slots) x y = ap (λ (xs : List (Option Slot)). o ∷ xs) (set_last slots x y)

full_room : (slots : List (Option Slot)) → nat_lt (room slots) (length slots) ≡ false → room slots ≡ length slots
full_room slots f = (let low = room-within slots in let high = ltb-false _ _ f in omega arith)

module _ (slots : List (Option Slot)) where
  pub reserved_room : room (reserved slots) < length (reserved slots)
  unfolding reserved
  reserved_room = elim (cases_Bool (nat_lt (room slots) (length slots))) [
    | inl t ↦ rw t (ltb-true _ _ t)
    | inr f ↦ (let e = kept_room slots (full_room slots f) in let n : length (slots ++ None ∷ []) ≡ length slots + 1 = length_push slots None in rw f (omega arith))
  ]

  pub reserved_same : room (reserved slots) ≡ room slots
  unfolding reserved
  reserved_same = elim (cases_Bool (nat_lt (room slots) (length slots))) [
    | inl t ↦ rw t refl
    | inr f ↦ rw f (kept_room slots (full_room slots f) ∙ sym (full_room slots f))
  ]

  pub reserved_slots : (s : Slot) → with_slot (reserved slots) (room slots) s ≡ with_slot slots (room slots) s
  unfolding reserved with_slot
  reserved_slots s = elim (cases_Bool (nat_lt (room slots) (length slots))) [
    | inl t ↦ rw t (rw t refl)
    | inr f ↦
        let e = full_room slots f in
        let n : length (slots ++ None ∷ []) ≡ length slots + 1 = length_push slots None in
        rw f (rw (lt-ltb (room slots) (length (slots ++ None ∷ [])) (omega arith)) (ap (λ k. slice_set (slots ++ None ∷ []) k (Some s)) e ∙ set_last slots None (Some s)))
  ]

  pub reserved_undone : take (length slots) (reserved slots) ≡ slots
  unfolding reserved
  reserved_undone = elim (cases_Bool (nat_lt (room slots) (length slots))) [
    | inl t ↦ rw t (take_all (length slots) slots (omega arith))
    | inr f ↦ rw f (grind (arith, common_steps))
  ]

-- ---- a name comes

module _ (slots : List (Option Slot)) (s : Slot) where
  abbrev added : List (Option Slot)
  added = with_slot slots (room slots) s

  there : slot_at added (room slots) ≡ Some s
  there = get_or_from_slice_get added (room slots) (Some s) None (with_slot-here slots (room slots) s (room-within slots))

  pub added_places : (at : ℕ) → at ≢ room slots → slot_at added at ≡ slot_at slots at
  unfolding with_slot
  added_places at apart = elim (cases_Bool (nat_lt (room slots) (length slots))) [
    | inl t ↦ rw t (get_or-set_other slots (room slots) at (Some s) None apart)
    | inr f ↦ rw f (beside at (let e = full_room slots f in λ same. apart (omega arith)))
  ]
    where
      beside : (at : ℕ) → at ≢ length slots → slot_at (slots ++ Some s ∷ []) at ≡ slot_at slots at
      beside at apart = elim (cases_Bool (nat_lt at (length slots))) [
        | inl t ↦ (let low = ltb-true _ _ t in grind (arith, common_steps))
        | inr f ↦
            let n : length (slots ++ Some s ∷ []) ≡ length slots + 1 = length_push slots (Some s) in
            let high = ltb-false _ _ f in
            get_or_past (slots ++ Some s ∷ []) at None (omega arith) ∙ sym (get_or_past slots at None high)
      ]

  room_inside : room slots < length added
  room_inside = slice_get-length added (room slots) (Some s) (with_slot-here slots (room slots) s (room-within slots))

  pub added_here : place_of slots s.name ≡ None → place_of added s.name ≡ Some (room slots)
  added_here none = placed added s.name (room slots) room_inside
      (ap (has_name s.name) there ∙ has_name-same s.name s refl)
      (λ k low. ap (has_name s.name) (added_places k (λ e. omega arith)) ∙ no_place slots s.name none k)

  pub added_others : (name : List ℕ) → name ≢ s.name → place_of added name ≡ place_of slots name
  added_others name apart = same_place added slots name (λ k. elim (cases_eq k (room slots)) [
    | inl e ↦ ap (λ k. has_name name (slot_at added k)) e ∙ (ap (has_name name) there ∙ (has_name-other name s (λ same. apart (sym same))
        ∙ (sym (ap (has_name name) (free_room slots)) ∙ ap (λ k. has_name name (slot_at slots k)) (sym e))))
    | inr n ↦ ap (has_name name) (added_places k n)
  ])

  old_slot : (j : ℕ) (t : Slot) → slice_get added j ≡ Some (Some t) → ((j ≡ room slots) × (t ≡ s)) ⊎ ((j ≢ room slots) × (slice_get slots j ≡ Some (Some t)))
  old_slot j t h = elim (cases_eq j (room slots)) [
    | inl e ↦ inl (e, same_Some t s (same_Some (Some t) (Some s) (sym h ∙ (ap (slice_get added) e ∙ with_slot-here slots (room slots) s (room-within slots)))))
    | inr n ↦ inr (n, with_slot-other slots (room slots) j s (Some t) (room-within slots) n h)
  ]

  pub added_once : place_of slots s.name ≡ None → NamesStandOnce slots → NamesStandOnce added
  added_once none once j k t u a b same = elim (old_slot j t a) [
    | inl x ↦ elim (old_slot k u b) [
      | inl y ↦ x.0 ∙ sym y.0
      | inr y ↦ absurd (no_slot slots s.name none k u y.1 (sym same ∙ ap (λ (v : Slot). v.name) x.1))
    ]
    | inr x ↦ elim (old_slot k u b) [
      | inl y ↦ absurd (no_slot slots s.name none j t x.1 (same ∙ ap (λ (v : Slot). v.name) y.1))
      | inr y ↦ once j k t u x.1 y.1 same
    ]
  ]

-- ---- a name goes

module _ (slots : List (Option Slot)) (name : List ℕ) where
  gone_at : (at : ℕ) → place_of slots name ≡ Some at → slots_without slots name ≡ slice_set slots at None
  gone_at at e = ap (freed slots) e

  gone_not : place_of slots name ≡ None → slots_without slots name ≡ slots
  gone_not e = ap (freed slots) e

  inside : (at : ℕ) → place_of slots name ≡ Some at → at < length slots
  inside at e = (at_place slots name at e).0

  pub removed_free : (at : ℕ) → place_of slots name ≡ Some at → slice_get (slots_without slots name) at ≡ Some None
  removed_free at e = ap (λ xs. slice_get xs at) (gone_at at e) ∙ slice_get-set_same slots at None (inside at e)

  pub removed_places : (at : ℕ) → place_of slots name ≢ Some at → slot_at (slots_without slots name) at ≡ slot_at slots at
  removed_places at apart = by (place_of slots name) refl
    where
      by : (o : Option ℕ) → place_of slots name ≡ o → slot_at (slots_without slots name) at ≡ slot_at slots at
      by None e = ap (λ xs. slot_at xs at) (gone_not e)
      by (Some k) e = ap (λ xs. slot_at xs at) (gone_at k e) ∙ get_or-set_other slots k at None None (λ same. apart (e ∙ ap Some (sym same)))

  pub removed_length : length (slots_without slots name) ≡ length slots
  removed_length = by (place_of slots name) refl
    where
      by : (o : Option ℕ) → place_of slots name ≡ o → length (slots_without slots name) ≡ length slots
      by None e = ap length (gone_not e)
      by (Some k) e = ap length (gone_at k e) ∙ length-set slots k None

  pub removed_count : (at : ℕ) → place_of slots name ≡ Some at → 1 + used_count (slots_without slots name) ≡ used_count slots
  removed_count at e =
      let w = found slots name at e in
      let less = free-count slots at w.0 w.1 in
      let same = ap used_count (gone_at at e) in
      omega arith

  -- what is in use afterwards was before
  left : (j : ℕ) (t : Slot) → slice_get (slots_without slots name) j ≡ Some (Some t) → slice_get slots j ≡ Some (Some t)
  left j t h = by (place_of slots name) refl
    where
      by : (o : Option ℕ) → place_of slots name ≡ o → slice_get slots j ≡ Some (Some t)
      by None e = ap (λ xs. slice_get xs j) (sym (gone_not e)) ∙ h
      by (Some k) e = elim (cases_eq j k) [
        | inl same ↦ absurd (none-some t (same_Some None (Some t) (sym (removed_free k e) ∙ (ap (slice_get (slots_without slots name)) (sym same) ∙ h))))
        | inr n ↦ sym (slice_get-set_other slots k j None n) ∙ (ap (λ xs. slice_get xs j) (sym (gone_at k e)) ∙ h)
      ]

  pub removed_once : NamesStandOnce slots → NamesStandOnce (slots_without slots name)
  removed_once once j k s t a b same = once j k s t (left j s a) (left k t b) same

  -- the slot that goes is the only one with the name
  pub removed_gone : NamesStandOnce slots → place_of (slots_without slots name) name ≡ None
  removed_gone once = by (place_of slots name) refl
    where
      by : (o : Option ℕ) → place_of slots name ≡ o → place_of (slots_without slots name) name ≡ None
      by None e = ap (λ xs. place_of xs name) (gone_not e) ∙ e
      by (Some k) e = again (place_of (slots_without slots name) name) refl
        where
          again : (o : Option ℕ) → place_of (slots_without slots name) name ≡ o → o ≡ None
          again None h = refl
          again (Some j) h =
              let w = found (slots_without slots name) name j h in
              let v = found slots name k e in
              let same = once j k w.0 v.0 (left j w.0 w.1) v.1 (w.2 ∙ sym v.2) in
              absurd (none-some w.0 (same_Some None (Some w.0) (sym (removed_free k e) ∙ (ap (slice_get (slots_without slots name)) (sym same) ∙ w.1))))

  pub removed_others : (other : List ℕ) → other ≢ name → place_of (slots_without slots name) other ≡ place_of slots other
  removed_others other apart = by (place_of slots name) refl
    where
      by : (o : Option ℕ) → place_of slots name ≡ o → place_of (slots_without slots name) other ≡ place_of slots other
      by None e = ap (λ xs. place_of xs other) (gone_not e)
      by (Some k) e = ap (λ xs. place_of xs other) (gone_at k e) ∙ same_place (slice_set slots k None) slots other (λ j. elim (cases_eq j k) [
        | inl same ↦
            let v = found slots name k e in
            ap (λ j. has_name other (slot_at (slice_set slots k None) j)) same
            ∙ (ap (has_name other) (get_or-set_same slots k None None (inside k e))
            ∙ (sym (has_name-other other v.0 (λ is. apart (sym is ∙ v.2)))
            ∙ (ap (has_name other) (sym (get_or_from_slice_get slots k (Some v.0) None v.1)) ∙ ap (λ j. has_name other (slot_at slots j)) (sym same))))
        | inr n ↦ ap (has_name other) (get_or-set_other slots k j None None n)
      ])
