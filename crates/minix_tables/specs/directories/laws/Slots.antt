-- The slots of a directory with one more name.
use Rattle.std.specs.Prelude.{◌≡◌, ◌≢◌, ℕ, zero, suc, ◌+◌, ◌<◌, ◌≤◌, nat_lt, List, [], ◌∷◌, ◌++◌, length, slice_set, Option, Some, None, refl}
use Rattle.std.specs.List.{slice_get}
use Rattle.std.proofs.Common.{sym, ap, subst, ◌∙◌, inl, inr, ⊎_elim, arith}
use Rattle.std.proofs.lemmas.Bool.{cases_Bool, ltb-true, ltb-false}
use Rattle.std.proofs.lemmas.List.{length-set, length_push}
use Rattle.std.proofs.lemmas.Option.{none-some, same_Some}
use Rattle.blk_base.specs.laws.Members.{slice_get-set_same, slice_get-set_other, slice_get-push, slice_get-push_left, slice_get-push_cases, slice_get-length}
use Rattle.minix_layout.specs.declared.slot.Slot.{Slot}
use Rattle.minix_tables.specs.directories.Slots.{room, with_slot, used_count}

-- a place among the slots, or the next
pub room-within : (slots : List (Option Slot)) → room slots ≤ length slots
room-within [] = omega arith
room-within (None ∷ slots) = omega arith
room-within (Some s ∷ slots) = let h = room-within slots in omega arith

-- it is free
pub room-free : (slots : List (Option Slot)) (s : Slot) → slice_get slots (room slots) ≡ Some (Some s) → ⊥
room-free [] s h = absurd (cc)
room-free (None ∷ slots) s h = absurd (cc)
room-free (Some t ∷ slots) s h = room-free slots s h

pub with_slot-here : (slots : List (Option Slot)) (k : ℕ) (s : Slot) → k ≤ length slots → slice_get (with_slot slots k s) k ≡ Some (Some s)
unfolding with_slot
with_slot-here slots k s within =
    elim (cases_Bool (nat_lt k (length slots))) [
      | inl t ↦ rw t (slice_get-set_same slots k (Some s) (ltb-true _ _ t))
      | inr f ↦
          let e : k ≡ length slots = (let h = ltb-false _ _ f in omega arith) in
          rw f (subst (λ j. slice_get (slots ++ Some s ∷ []) j ≡ Some (Some s)) (sym e) (slice_get-push slots (Some s)))
    ]

pub with_slot-other : (slots : List (Option Slot)) (k j : ℕ) (s : Slot) (o : Option Slot) → k ≤ length slots → j ≢ k → slice_get (with_slot slots k s) j ≡ Some o → slice_get slots j ≡ Some o
unfolding with_slot
with_slot-other slots k j s o within apart h =
    elim (cases_Bool (nat_lt k (length slots))) [
      | inl t ↦ sym (slice_get-set_other slots k j (Some s) apart) ∙ (rw t at h)
      | inr f ↦
          let g = ltb-false _ _ f in
          ⊎_elim (λ old. old) (λ x. absurd (apart (omega arith))) (slice_get-push_cases slots (Some s) j o (rw f at h))
    ]

pub with_slot-kept : (slots : List (Option Slot)) (k j : ℕ) (s : Slot) (o : Option Slot) → j ≢ k → slice_get slots j ≡ Some o → slice_get (with_slot slots k s) j ≡ Some o
unfolding with_slot
with_slot-kept slots k j s o apart h =
    elim (cases_Bool (nat_lt k (length slots))) [
      | inl t ↦ rw t (slice_get-set_other slots k j (Some s) apart ∙ h)
      | inr f ↦ rw f (slice_get-push_left slots (Some s) j (slice_get-length slots j o h) ∙ h)
    ]

pub length-with_slot : (slots : List (Option Slot)) (k : ℕ) (s : Slot) → k < length slots → length (with_slot slots k s) ≡ length slots
unfolding with_slot
length-with_slot slots k s within =
    elim (cases_Bool (nat_lt k (length slots))) [
      | inl t ↦ rw t (length-set slots k (Some s))
      | inr f ↦ absurd (let h = ltb-false _ _ f in omega arith)
    ]

pub length-with_slot_more : (slots : List (Option Slot)) (k : ℕ) (s : Slot) → k ≡ length slots → length (with_slot slots k s) ≡ k + 1
unfolding with_slot
length-with_slot_more slots k s same =
    elim (cases_Bool (nat_lt k (length slots))) [
      | inl t ↦ absurd (let h = ltb-true _ _ t in omega arith)
      | inr f ↦ rw f (length_push slots (Some s) ∙ omega arith)
    ]

-- ---- counting slots in use

pub used-most : (slots : List (Option Slot)) → used_count slots ≤ length slots
used-most [] = omega arith
used-most (None ∷ slots) = let h = used-most slots in omega arith
used-most (Some s ∷ slots) = let h = used-most slots in omega arith

-- a place is free exactly where not all are in use
pub room-count : (slots : List (Option Slot)) → room slots < length slots → used_count slots < length slots
room-count [] h = absurd (omega arith)
room-count (None ∷ slots) h = let most = used-most slots in omega arith
room-count (Some s ∷ slots) h = let more = room-count slots (omega arith) in omega arith

pub full-count : (slots : List (Option Slot)) → room slots ≡ length slots → used_count slots ≡ length slots
full-count [] h = refl
full-count (None ∷ slots) h = absurd (omega arith)
full-count (Some s ∷ slots) h = let more = full-count slots (omega arith) in omega arith

set-count : (slots : List (Option Slot)) (s : Slot) → room slots < length slots → used_count (slice_set slots (room slots) (Some s)) ≡ suc (used_count slots)
set-count [] s h = absurd (omega arith)
set-count (None ∷ slots) s h = refl
set-count (Some t ∷ slots) s h = ap suc (set-count slots s (omega arith))

push-count : (slots : List (Option Slot)) (s : Slot) → used_count (slots ++ Some s ∷ []) ≡ suc (used_count slots)
push-count [] s = refl
push-count (None ∷ slots) s = push-count slots s
push-count (Some t ∷ slots) s = ap suc (push-count slots s)

pub with_slot-count : (slots : List (Option Slot)) (s : Slot) → used_count (with_slot slots (room slots) s) ≡ 1 + used_count slots
unfolding with_slot
with_slot-count slots s =
    elim (cases_Bool (nat_lt (room slots) (length slots))) [
      | inl t ↦ rw t (set-count slots s (ltb-true _ _ t) ∙ omega arith)
      | inr f ↦ rw f (push-count slots s ∙ omega arith)
    ]

pub length-with_slot_most : (slots : List (Option Slot)) (s : Slot) → length (with_slot slots (room slots) s) ≤ length slots + 1
length-with_slot_most slots s =
    let low = room-within slots in
    elim (cases_Bool (nat_lt (room slots) (length slots))) [
      | inl t ↦ let e = length-with_slot slots (room slots) s (ltb-true _ _ t) in omega arith
      | inr f ↦ let e = length-with_slot_more slots (room slots) s (let high = ltb-false _ _ f in omega arith) in omega arith
    ]

pub free-count : (slots : List (Option Slot)) (k : ℕ) (s : Slot) → slice_get slots k ≡ Some (Some s) → suc (used_count (slice_set slots k None)) ≡ used_count slots
free-count [] k s h = absurd (cc)
free-count (None ∷ slots) zero s h = absurd (none-some s (same_Some None (Some s) h))
free-count (None ∷ slots) (suc k) s h = free-count slots k s h
free-count (Some t ∷ slots) zero s h = refl
free-count (Some t ∷ slots) (suc k) s h = ap suc (free-count slots k s h)
