-- What a map tells of the names of a directory after one came or went.
use Rattle.std.specs.Prelude.{◌≡◌, ◌≢◌, ℕ, zero, suc, true, false, cond, List, [], ◌∷◌, ◌++◌, length, slice_set, Option, Some, None, refl}
use Rattle.std.specs.List.{slice_get}
use Rattle.std.specs.BTreeMap.{is_at}
use Rattle.std.specs.Ordering.{nat_cmp}
use Rattle.std.specs.Cmp.Lexicographic.{slice_cmp}
use Rattle.std.proofs.Common.{sym, ap, subst, ◌∙◌, inl, inr, ⊎_elim, arith}
use Rattle.std.proofs.lemmas.Bool.{cases_Bool, cases_eq}
use Rattle.std.proofs.lemmas.Option.{none-some, same_Some}
use Rattle.std.proofs.lemmas.Slice.Eq.{bytes_eq-Decides}
use Rattle.std.proofs.lemmas.Map.Text.{is_eq-slice_cmp}
use Rattle.blk_base.specs.laws.Members.{slice_get-set_same, slice_get-set_other, slice_get-push, slice_get-push_left, slice_get-push_cases, slice_get-length}
use Rattle.minix_layout.specs.declared.slot.Slot.{Slot}
use Rattle.minix_tables.specs.directories.Slots.{room, with_slot, slot_at, place_of}
use Rattle.minix_tables.specs.directories.Told.{told, IsTold, AreTold}
use Rattle.minix_tables.specs.directories.laws.Slots.{room-within, room-free, with_slot-here, with_slot-other, with_slot-kept}
use Rattle.minix_tables.specs.directories.laws.Found.{at_slot, found, no_slot}

-- ---- one name

is_same : (name q : List ℕ) → is_at (slice_cmp nat_cmp name) q ≡ true → name ≡ q
is_same name q t = (bytes_eq-Decides name q).0 (sym (is_eq-slice_cmp name q) ∙ t)

is_here : (name : List ℕ) → is_at (slice_cmp nat_cmp name) name ≡ true
is_here name = is_eq-slice_cmp name name ∙ (bytes_eq-Decides name name).1 refl

is_other : (name q : List ℕ) → name ≢ q → is_at (slice_cmp nat_cmp name) q ≡ false
is_other name q apart = elim (cases_Bool (is_at (slice_cmp nat_cmp name) q)) [ inl t ↦ absurd (apart (is_same name q t)) | inr f ↦ f ]

-- ---- what is told is what a search finds

pub told_place : (slots : List (Option Slot)) (place : List ℕ → Option ℕ) (name : List ℕ) → IsTold slots place → place name ≡ place_of slots name
told_place slots place name h = by (place_of slots name) refl
  where
    by : (o : Option ℕ) → place_of slots name ≡ o → place name ≡ o
    by (Some at) e = let w = found slots name at e in ap place (sym w.2) ∙ h.there at w.0 w.1
    by None e = none (place name) refl
      where
        none : (o : Option ℕ) → place name ≡ o → place name ≡ None
        none None is = is
        none (Some at) is = let w = h.slot name at is in absurd (no_slot slots name e at w.0 w.1 w.2)

pub untold : (slots : List (Option Slot)) (place : List ℕ → Option ℕ) (name : List ℕ) → IsTold slots place → place_of slots name ≡ None → place name ≡ None
untold slots place name h none = told_place slots place name h ∙ none

-- ---- a slot comes, at a place that was free

module _ (slots after : List (Option Slot)) (place then : List ℕ → Option ℕ) (at : ℕ) (s : Slot) where
  pub told_more : slice_get after at ≡ Some (Some s) →
      ((j : ℕ) (o : Option Slot) → j ≢ at → slice_get after j ≡ Some o → slice_get slots j ≡ Some o) →
      ((j : ℕ) (o : Option Slot) → j ≢ at → slice_get slots j ≡ Some o → slice_get after j ≡ Some o) →
      ((t : Slot) → slice_get slots at ≢ Some (Some t)) →
      place s.name ≡ None →
      ((q : List ℕ) → then q ≡ cond (is_at (slice_cmp nat_cmp s.name) q) (Some at) (place q)) →
      IsTold slots place → IsTold after then
  told_more here other kept free new put h = record { there = there; slot = slot }
    where
      there : (j : ℕ) (t : Slot) → slice_get after j ≡ Some (Some t) → then t.name ≡ Some j
      there j t e = elim (cases_eq j at) [
        | inl same ↦
            let is : s ≡ t = same_Some s t (same_Some (Some s) (Some t) (sym here ∙ (ap (slice_get after) (sym same) ∙ e))) in
            let test : is_at (slice_cmp nat_cmp s.name) t.name ≡ true = subst (λ (u : Slot). is_at (slice_cmp nat_cmp s.name) u.name ≡ true) is (is_here s.name) in
            put t.name ∙ (ap (λ b. cond b (Some at) (place t.name)) test ∙ ap Some (sym same))
        | inr apart ↦
            let was : place t.name ≡ Some j = h.there j t (other j (Some t) apart e) in
            let test : is_at (slice_cmp nat_cmp s.name) t.name ≡ false = is_other s.name t.name (λ same. none-some j (sym new ∙ (ap place same ∙ was))) in
            put t.name ∙ (ap (λ b. cond b (Some at) (place t.name)) test ∙ was)
      ]

      slot : (name : List ℕ) (j : ℕ) → then name ≡ Some j → (t : Slot) × (slice_get after j ≡ Some (Some t)) × (t.name ≡ name)
      slot name j e = elim (cases_Bool (is_at (slice_cmp nat_cmp s.name) name)) [
        | inl t ↦
            let is : at ≡ j = same_Some at j (sym (ap (λ b. cond b (Some at) (place name)) t) ∙ (sym (put name) ∙ e)) in
            (s, ap (slice_get after) (sym is) ∙ here, is_same s.name name t)
        | inr f ↦
            let w = h.slot name j (sym (ap (λ b. cond b (Some at) (place name)) f) ∙ (sym (put name) ∙ e)) in
            (w.0, kept j (Some w.0) (λ same. free w.0 (ap (slice_get slots) (sym same) ∙ w.1)) w.1, w.2)
      ]

-- a name is added
pub told_added : (slots : List (Option Slot)) (place then : List ℕ → Option ℕ) (s : Slot) → place_of slots s.name ≡ None →
    ((q : List ℕ) → then q ≡ cond (is_at (slice_cmp nat_cmp s.name) q) (Some (room slots)) (place q)) →
    IsTold slots place → IsTold (with_slot slots (room slots) s) then
told_added slots place then s none put h =
    told_more slots (with_slot slots (room slots) s) place then (room slots) s (with_slot-here slots (room slots) s (room-within slots))
    (λ j o. with_slot-other slots (room slots) j s o (room-within slots))
    (λ j o. with_slot-kept slots (room slots) j s o)
    (room-free slots) (untold slots place s.name h none) put h

-- ---- slots that are read one after the other

pub told_none : (places : List (List ℕ × ℕ)) → places ≡ [] → IsTold [] (told places)
told_none places e = subst (λ xs. IsTold [] (told xs)) (sym e) (record { there = λ at s g. absurd (none-some (Some s) g); slot = λ name at g. absurd (none-some at g) })

behind : {X : Type 0} (xs : List X) (x : X) → slice_get xs (length xs) ≢ Some x
behind xs x e = let low = slice_get-length xs (length xs) x e in absurd (omega arith)

pub told_next : (slots : List (Option Slot)) (place then : List ℕ → Option ℕ) (s : Slot) → place s.name ≡ None →
    ((q : List ℕ) → then q ≡ cond (is_at (slice_cmp nat_cmp s.name) q) (Some (length slots)) (place q)) →
    IsTold slots place → IsTold (slots ++ Some s ∷ []) then
told_next slots place then s new put h =
    told_more slots (slots ++ Some s ∷ []) place then (length slots) s (slice_get-push slots (Some s))
    (λ j o apart e. ⊎_elim (λ old. old) (λ x. absurd (apart (omega arith))) (slice_get-push_cases slots (Some s) j o e))
    (λ j o apart e. slice_get-push_left slots (Some s) j (slice_get-length slots j o e) ∙ e)
    (λ t. behind slots (Some t)) new put h

-- a free slot at the end tells of no name
pub told_free : (slots : List (Option Slot)) (place : List ℕ → Option ℕ) → IsTold slots place → IsTold (slots ++ None ∷ []) place
told_free slots place h = record {
  there = λ at s e. h.there at s (⊎_elim (λ old. old) (λ x. absurd (none-some s x.1)) (slice_get-push_cases slots None at (Some s) e));
  slot = λ name at e. (let w = h.slot name at e in (w.0, slice_get-push_left slots None at (slice_get-length slots at (Some w.0) w.1) ∙ w.1, w.2));
}

-- ---- a name goes

module _ (slots : List (Option Slot)) (place then : List ℕ → Option ℕ) (name : List ℕ) (at : ℕ)
    (stands : place_of slots name ≡ Some at) (taken : (q : List ℕ) → then q ≡ cond (is_at (slice_cmp nat_cmp name) q) None (place q)) (h : IsTold slots place) where
  other : (q : List ℕ) → name ≢ q → then q ≡ place q
  other q apart = taken q ∙ ap (λ b. cond b None (place q)) (is_other name q apart)

  here : then name ≡ None
  here = taken name ∙ ap (λ b. cond b None (place name)) (is_here name)

  apart_by : (q : List ℕ) (j : ℕ) → then q ≡ Some j → name ≢ q
  apart_by q j e same = none-some j (sym here ∙ (ap then same ∙ e))

  was : (s : Slot) × (slice_get slots at ≡ Some (Some s)) × (s.name ≡ name)
  was = found slots name at stands

  same_at : (j : ℕ) (t : Slot) → slice_get slots j ≡ Some (Some t) → name ≡ t.name → j ≡ at
  same_at j t g same = same_Some j at (sym (h.there j t g) ∙ (ap place (sym same) ∙ (ap place (sym was.2) ∙ h.there at was.0 was.1)))

  still_there : (j : ℕ) (t : Slot) → slice_get (slice_set slots at None) j ≡ Some (Some t) → then t.name ≡ Some j
  still_there j t g = elim (cases_eq j at) [
    | inl same ↦ absurd (none-some t (same_Some None (Some t) (sym (slice_get-set_same slots at None (slice_get-length slots at (Some was.0) was.1)) ∙ (ap (slice_get (slice_set slots at None)) (sym same) ∙ g))))
    | inr n ↦ (let old = sym (slice_get-set_other slots at j None n) ∙ g in other t.name (λ same. n (same_at j t old same)) ∙ h.there j t old)
  ]

  still_slot : (q : List ℕ) (j : ℕ) → then q ≡ Some j → (t : Slot) × (slice_get (slice_set slots at None) j ≡ Some (Some t)) × (t.name ≡ q)
  still_slot q j g =
      let w = h.slot q j (sym (other q (apart_by q j g)) ∙ g) in
      let n : j ≢ at = (λ same. apart_by q j g (sym was.2 ∙ (ap (λ (v : Slot). v.name) (same_Some was.0 w.0 (same_Some (Some was.0) (Some w.0) (sym was.1 ∙ (ap (slice_get slots) (sym same) ∙ w.1)))) ∙ w.2))) in
      (w.0, slice_get-set_other slots at j None n ∙ w.1, w.2)

  pub told_gone : IsTold (slice_set slots at None) then
  told_gone = record { there = still_there; slot = still_slot }

-- ---- a slot is led to another inode, under its name

pub told_led : (slots : List (Option Slot)) (place : List ℕ → Option ℕ) (at : ℕ) (s t : Slot) → slice_get slots at ≡ Some (Some s) → t.name ≡ s.name →
    IsTold slots place → IsTold (slice_set slots at (Some t)) place
told_led slots place at s t is named h = record { there = there; slot = slot }
  where
    here : slice_get (slice_set slots at (Some t)) at ≡ Some (Some t)
    here = slice_get-set_same slots at (Some t) (slice_get-length slots at (Some s) is)

    there : (j : ℕ) (u : Slot) → slice_get (slice_set slots at (Some t)) j ≡ Some (Some u) → place u.name ≡ Some j
    there j u e = elim (cases_eq j at) [
      | inl same ↦
          let like : t ≡ u = same_Some t u (same_Some (Some t) (Some u) (sym here ∙ (ap (slice_get (slice_set slots at (Some t))) (sym same) ∙ e))) in
          ap (λ (v : Slot). place v.name) (sym like) ∙ (ap place named ∙ (h.there at s is ∙ ap Some (sym same)))
      | inr n ↦ h.there j u (sym (slice_get-set_other slots at j (Some t) n) ∙ e)
    ]

    slot : (name : List ℕ) (j : ℕ) → place name ≡ Some j → (u : Slot) × (slice_get (slice_set slots at (Some t)) j ≡ Some (Some u)) × (u.name ≡ name)
    slot name j e =
        let w = h.slot name j e in
        elim (cases_eq j at) [
          | inl same ↦
              let like : s ≡ w.0 = same_Some s w.0 (same_Some (Some s) (Some w.0) (sym is ∙ (ap (slice_get slots) (sym same) ∙ w.1))) in
              (t, ap (slice_get (slice_set slots at (Some t))) same ∙ here, named ∙ (ap (λ (v : Slot). v.name) like ∙ w.2))
          | inr n ↦ (w.0, slice_get-set_other slots at j (Some t) n ∙ w.1, w.2)
        ]

-- ---- where there is a map

pub are_free : (slots : List (Option Slot)) (index : Option (List (List ℕ × ℕ))) → AreTold slots index → AreTold (slots ++ None ∷ []) index
are_free slots None h = tt
are_free slots (Some places) h = told_free slots (told places) h

pub are_led : (slots : List (Option Slot)) (index : Option (List (List ℕ × ℕ))) (at : ℕ) (s t : Slot) → slot_at slots at ≡ Some s → t.name ≡ s.name →
    AreTold slots index → AreTold (slice_set slots at (Some t)) index
are_led slots None at s t is named h = tt
are_led slots (Some places) at s t is named h = told_led slots (told places) at s t (at_slot slots at s is) named h

set_kept : (slots : List (Option Slot)) (at : ℕ) (o : Option Slot) → slot_at slots at ≡ o → slice_set slots at o ≡ slots
set_kept [] at o e = refl
set_kept (x ∷ slots) zero o e = ap (λ (y : Option Slot). y ∷ slots) (sym e)
set_kept (x ∷ slots) (suc at) o e = ap (λ (ys : List (Option Slot)). x ∷ ys) (set_kept slots at o e)

pub are_kept : (slots : List (Option Slot)) (index : Option (List (List ℕ × ℕ))) (at : ℕ) (o : Option Slot) → slot_at slots at ≡ o →
    AreTold slots index → AreTold (slice_set slots at o) index
are_kept slots index at o e h = subst (λ xs. AreTold xs index) (sym (set_kept slots at o e)) h
