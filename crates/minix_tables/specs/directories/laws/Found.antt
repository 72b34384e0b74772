-- Which slot a name is found at.
use Rattle.std.specs.Prelude.{◌≡◌, ◌≢◌, ◌↔◌, ℕ, ◌<◌, ◌≤◌, nat_lt, Bool, true, false, cond, List, length, Option, Some, None, refl}
use Rattle.std.specs.List.{slice_get, position_or_len}
use Rattle.std.specs.Str.{bytes_eq}
use Rattle.std.proofs.Common.{sym, ap, ◌∙◌, inl, inr, arith, get_or}
use Rattle.std.proofs.lemmas.Bool.{cases_Bool, lt-ltb, le-ltb, ltb-true, ltb-false, true≢false}
use Rattle.std.proofs.lemmas.Option.{none-some, slice_get-get_or, get_or_from_slice_get}
use Rattle.std.proofs.lemmas.List.{get_or_past, get_or_default}
use Rattle.std.proofs.lemmas.List.Sums.{position_or_len_is, fails_before_first}
use Rattle.std.proofs.lemmas.List.Quantifiers.{position-Some}
use Rattle.std.proofs.lemmas.Slice.Eq.{bytes_eq-Decides}
use Rattle.minix_layout.specs.declared.slot.Slot.{Slot}
use Rattle.minix_tables.specs.directories.Slots.{slot_at, slot_found, has_name, place_of}

-- ---- one slot

pub has_name-Some : (name : List ℕ) (o : Option Slot) → has_name name o ≡ true → (s : Slot) × (o ≡ Some s) × (s.name ≡ name)
has_name-Some name None t = absurd (true≢false (sym t))
has_name-Some name (Some s) t = (s, refl, (bytes_eq-Decides s.name name).0 t)

pub has_name-same : (name : List ℕ) (s : Slot) → s.name ≡ name → has_name name (Some s) ≡ true
has_name-same name s e = (bytes_eq-Decides s.name name).1 e

pub has_name-other : (name : List ℕ) (s : Slot) → s.name ≢ name → has_name name (Some s) ≡ false
has_name-other name s n = elim (cases_Bool (bytes_eq s.name name)) [ inl t ↦ absurd (n ((bytes_eq-Decides s.name name).0 t)) | inr f ↦ f ]

pub at_slot : (slots : List (Option Slot)) (at : ℕ) (s : Slot) → slot_at slots at ≡ Some s → slice_get slots at ≡ Some (Some s)
at_slot slots at s e = elim (cases_Bool (nat_lt at (length slots))) [
  | inl t ↦ slice_get-get_or slots at None (ltb-true _ _ t) ∙ ap Some e
  | inr f ↦ absurd (none-some s (sym (get_or_past slots at None (ltb-false _ _ f)) ∙ e))
]

-- ---- the first that has a name

pub placed : (slots : List (Option Slot)) (name : List ℕ) (at : ℕ) → at < length slots → has_name name (slot_at slots at) ≡ true →
    ((k : ℕ) → k < at → has_name name (slot_at slots k) ≡ false) → place_of slots name ≡ Some at
placed slots name at low t none =
    let e : position_or_len (has_name name) slots ≡ at = position_or_len_is (has_name name) slots at None (omega arith) none (λ h. t) in
    rw e (rw (lt-ltb at (length slots) low) refl)

pub nowhere : (slots : List (Option Slot)) (name : List ℕ) → ((k : ℕ) → has_name name (slot_at slots k) ≡ false) → place_of slots name ≡ None
nowhere slots name none =
    let e : position_or_len (has_name name) slots ≡ length slots = position_or_len_is (has_name name) slots (length slots) None (omega arith) (λ k h. none k) (λ h. absurd (omega arith)) in
    rw e (rw (le-ltb (length slots) (length slots) (omega arith)) refl)

pub at_place : (slots : List (Option Slot)) (name : List ℕ) (at : ℕ) → place_of slots name ≡ Some at →
    (at < length slots) × (has_name name (slot_at slots at) ≡ true) × ((k : ℕ) → k < at → has_name name (slot_at slots k) ≡ false)
at_place slots name at e = position-Some (has_name name) slots at None e

past : (slots : List (Option Slot)) (name : List ℕ) (k : ℕ) → length slots ≤ k → has_name name (slot_at slots k) ≡ false
past slots name k far = ap (has_name name) (get_or_past slots k None far)

pub no_place : (slots : List (Option Slot)) (name : List ℕ) → place_of slots name ≡ None → (k : ℕ) → has_name name (slot_at slots k) ≡ false
no_place slots name e k = by (nat_lt n (length slots)) refl e
  where
    n : ℕ
    n = position_or_len (has_name name) slots

    by : (b : Bool) → nat_lt n (length slots) ≡ b → cond b (Some n) None ≡ None → has_name name (slot_at slots k) ≡ false
    by true t h = absurd (none-some n (sym h))
    by false f h = elim (cases_Bool (nat_lt k (length slots))) [
      | inl t ↦ fails_before_first (has_name name) slots k None (let a = ltb-true _ _ t in let b = ltb-false _ _ f in omega arith)
      | inr g ↦ past slots name k (ltb-false _ _ g)
    ]

-- a place is told by the slots that have the name
pub same_place : (xs ys : List (Option Slot)) (name : List ℕ) → ((k : ℕ) → has_name name (slot_at xs k) ≡ has_name name (slot_at ys k)) → place_of xs name ≡ place_of ys name
same_place xs ys name same = by (place_of xs name) refl
  where
    by : (o : Option ℕ) → place_of xs name ≡ o → o ≡ place_of ys name
    by None e = sym (nowhere ys name (λ k. sym (same k) ∙ no_place xs name e k))
    by (Some at) e =
        let w = at_place xs name at e in
        let t = sym (same at) ∙ w.1 in
        sym (placed ys name at
        (elim (cases_Bool (nat_lt at (length ys))) [ inl t ↦ ltb-true _ _ t | inr f ↦ absurd (true≢false (sym t ∙ past ys name at (ltb-false _ _ f))) ])
        t (λ k h. sym (same k) ∙ w.2 k h))

-- ---- in words of slots

pub found : (slots : List (Option Slot)) (name : List ℕ) (at : ℕ) → place_of slots name ≡ Some at → (s : Slot) × (slice_get slots at ≡ Some (Some s)) × (s.name ≡ name)
found slots name at e =
    let w = at_place slots name at e in
    let h = has_name-Some name (slot_at slots at) w.1 in
    (h.0, at_slot slots at h.0 h.1, h.2)

pub no_slot : (slots : List (Option Slot)) (name : List ℕ) → place_of slots name ≡ None → (at : ℕ) (s : Slot) → slice_get slots at ≡ Some (Some s) → s.name ≢ name
no_slot slots name e at s h same =
    true≢false (sym (has_name-same name s same) ∙ (ap (has_name name) (sym (get_or_from_slice_get slots at (Some s) None h)) ∙ no_place slots name e at))

pub not_found : (slots : List (Option Slot)) (name : List ℕ) → ((at : ℕ) (s : Slot) → slice_get slots at ≡ Some (Some s) → s.name ≢ name) → place_of slots name ≡ None
not_found slots name none = nowhere slots name (λ k. by k (slot_at slots k) refl)
  where
    by : (k : ℕ) (o : Option Slot) → slot_at slots k ≡ o → has_name name (slot_at slots k) ≡ false
    by k None e = ap (has_name name) e
    by k (Some s) e = ap (has_name name) e ∙ has_name-other name s (none k s (at_slot slots k s e))

-- what was found is a slot
pub none_found : (slots : List (Option Slot)) (name : List ℕ) (o : Option Slot) → o ≡ slot_found slots (place_of slots name) → (o ≡ None) ↔ (place_of slots name ≡ None)
none_found slots name o e = ((λ none. by (place_of slots name) refl (sym e ∙ none)), (λ none. e ∙ ap (slot_found slots) none))
  where
    by : (p : Option ℕ) → place_of slots name ≡ p → slot_found slots p ≡ None → p ≡ None
    by None at h = refl
    by (Some k) at h = (let w = has_name-Some name (slot_at slots k) (at_place slots name k at).1 in absurd (none-some w.0 (sym h ∙ w.1)))

pub found_value : (slots : List (Option Slot)) (name : List ℕ) (at : ℕ) (x r : Option Slot) → place_of slots name ≡ Some at → x ≡ get_or slots at x → r ≡ x → r ≡ slot_found slots (place_of slots name)
found_value slots name at x r e read is =
    is ∙ (read ∙ (get_or_default slots at x None (at_place slots name at e).0 ∙ sym (ap (slot_found slots) e)))
