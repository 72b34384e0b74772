-- What is found among slots after one was led to another inode.
use Rattle.std.specs.Prelude.{◌≡◌, ◌≢◌, ℕ, zero, suc, List, [], ◌∷◌, length, slice_set, Option, Some, None, refl}
use Rattle.std.specs.List.{slice_get}
use Rattle.std.proofs.Common.{sym, ap, ◌∙◌, inl, inr}
use Rattle.std.proofs.lemmas.Bool.{cases_eq}
use Rattle.std.proofs.lemmas.Option.{same_Some, get_or_from_slice_get}
use Rattle.std.proofs.lemmas.List.{get_or-set_other, length-set}
use Rattle.blk_base.specs.laws.Members.{slice_get-set_same, slice_get-set_other, slice_get-length}
use Rattle.minix_layout.specs.declared.slot.Slot.{Slot}
use Rattle.minix_tables.specs.directories.Slots.{used_count, slot_at, has_name, place_of, led_to, slots_led, NamesStandOnce}
use Rattle.minix_tables.specs.directories.laws.Found.{at_slot, same_place}

-- a slot for another one: as many are in use
same_count : (slots : List (Option Slot)) (k : ℕ) (s t : Slot) → slice_get slots k ≡ Some (Some s) → used_count (slice_set slots k (Some t)) ≡ used_count slots
same_count [] k s t h = refl
same_count (None ∷ slots) zero s t h = absurd (cc h)
same_count (None ∷ slots) (suc k) s t h = same_count slots k s t h
same_count (Some u ∷ slots) zero s t h = refl
same_count (Some u ∷ slots) (suc k) s t h = ap suc (same_count slots k s t h)

module _ (slots : List (Option Slot)) (at inode : ℕ) where
  abbrev after : List (Option Slot)
  after = slots_led slots at inode

  abbrev led : Slot → Slot
  led s = record { inode = inode; name = s.name }

  pub led_free : slot_at slots at ≡ None → after ≡ slots
  led_free none = ap (led_to slots at inode) none

  led_is : (s : Slot) → slot_at slots at ≡ Some s → after ≡ slice_set slots at (Some (led s))
  led_is s e = ap (led_to slots at inode) e

  inside : (s : Slot) → slot_at slots at ≡ Some s → slice_get after at ≡ Some (Some (led s))
  inside s e = ap (λ xs. slice_get xs at) (led_is s e) ∙ slice_get-set_same slots at (Some (led s)) (slice_get-length slots at (Some s) (at_slot slots at s e))

  pub led_here : (s : Slot) → slot_at slots at ≡ Some s → slot_at after at ≡ Some (led s)
  led_here s e = get_or_from_slice_get after at (Some (led s)) None (inside s e)

  pub led_places : (other : ℕ) → other ≢ at → slot_at after other ≡ slot_at slots other
  led_places other apart = by (slot_at slots at) refl
    where
      by : (o : Option Slot) → slot_at slots at ≡ o → slot_at after other ≡ slot_at slots other
      by None e = ap (λ xs. slot_at xs other) (led_free e)
      by (Some s) e = ap (λ xs. slot_at xs other) (led_is s e) ∙ get_or-set_other slots at other (Some (led s)) None apart

  pub led_names : (name : List ℕ) → place_of after name ≡ place_of slots name
  led_names name = same_place after slots name (λ k. elim (cases_eq k at) [
    | inl e ↦ ap (λ k. has_name name (slot_at after k)) e ∙ (here (slot_at slots at) refl ∙ sym (ap (λ k. has_name name (slot_at slots k)) e))
    | inr n ↦ ap (has_name name) (led_places k n)
  ])
    where
      here : (o : Option Slot) → slot_at slots at ≡ o → has_name name (slot_at after at) ≡ has_name name (slot_at slots at)
      here None e = ap (λ xs. has_name name (slot_at xs at)) (led_free e)
      here (Some s) e = ap (has_name name) (led_here s e) ∙ sym (ap (has_name name) e)

  pub led_length : length after ≡ length slots
  led_length = by (slot_at slots at) refl
    where
      by : (o : Option Slot) → slot_at slots at ≡ o → length after ≡ length slots
      by None e = ap length (led_free e)
      by (Some s) e = ap length (led_is s e) ∙ length-set slots at (Some (led s))

  pub led_count : used_count after ≡ used_count slots
  led_count = by (slot_at slots at) refl
    where
      by : (o : Option Slot) → slot_at slots at ≡ o → used_count after ≡ used_count slots
      by None e = ap used_count (led_free e)
      by (Some s) e = ap used_count (led_is s e) ∙ same_count slots at s (led s) (at_slot slots at s e)

  -- what is in use afterwards was before, under its name
  named : (j : ℕ) (t : Slot) → slice_get after j ≡ Some (Some t) → (s : Slot) × (slice_get slots j ≡ Some (Some s)) × (s.name ≡ t.name)
  named j t h = by (slot_at slots at) refl
    where
      by : (o : Option Slot) → slot_at slots at ≡ o → (s : Slot) × (slice_get slots j ≡ Some (Some s)) × (s.name ≡ t.name)
      by None e = (t, ap (λ xs. slice_get xs j) (sym (led_free e)) ∙ h, refl)
      by (Some s) e = elim (cases_eq j at) [
        | inl same ↦ (
          s,
          ap (slice_get slots) same ∙ at_slot slots at s e,
          ap (λ (v : Slot). v.name) (same_Some (led s) t (same_Some (Some (led s)) (Some t) (sym (inside s e) ∙ (ap (slice_get after) (sym same) ∙ h)))),
        )
        | inr n ↦ (t, sym (slice_get-set_other slots at j (Some (led s)) n) ∙ (ap (λ xs. slice_get xs j) (sym (led_is s e)) ∙ h), refl)
      ]

  pub led_once : NamesStandOnce slots → NamesStandOnce after
  led_once once j k s t a b same =
      let x = named j s a in
      let y = named k t b in
      once j k x.0 y.0 x.1 y.1 (x.2 ∙ (same ∙ sym y.2))
