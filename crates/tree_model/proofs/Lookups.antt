-- What stands in a map after a change, and the entries of a directory.
use Rattle.std.proofs.Common.{◌≡◌, ℕ, List, [], ◌∷◌, Some, None, cond, false, ap, ◌∙◌, inl, inr}
use Rattle.std.specs.Prelude.{◌≢◌}
use Rattle.std.specs.Ordering.{nat_cmp, is_eq, eq_by_cmp}
use Rattle.std.specs.List.{AllByRecursion, IsDistinct}
use Rattle.std.specs.List.Sorted.{IsStrictlySortedBy}
use Rattle.std.specs.Map.{keys_of}
use Rattle.std.specs.BTreeMap.{is_at}
use Rattle.std.proofs.lemmas.Bool.{cases_Bool, false_from_ne_true}
use Rattle.std.proofs.lemmas.Cmp.{eq_by_cmp_equiv, nat_cmp_total, nat_list_cmp_total}
use Rattle.std.proofs.lemmas.Map.{lookup-remove_entry}
use Rattle.std.proofs.lemmas.Map.Keys.{IsDistinct-from_sorted}
use Rattle.std.proofs.lemmas.Map.Entries.{lookup_from_place}
use Rattle.blk_base.specs.Members.{In}
use Rattle.blk_base.specs.laws.Members.{In-slice_get}
use Rattle.tree_model.specs.Maps.{at_number, at_name, without_number, name_cmp}
use Rattle.tree_model.specs.laws.MapsLaws.{number_here, number_same}

pub number_apart : (j k : ℕ) → j ≢ k → is_eq (nat_cmp j k) ≡ false
number_apart j k apart = false_from_ne_true (is_eq (nat_cmp j k)) (λ t. apart (number_same j k t))

-- ---- an entry less

abbrev pub AreApart : {X : Type 0} → List (ℕ × X) → Type 0
AreApart es = IsDistinct (eq_by_cmp nat_cmp) (keys_of es)

all_without : {X : Type 0} (P : ℕ → Type 0) (es : List (ℕ × X)) (k : ℕ) → AllByRecursion P (keys_of es) → AllByRecursion P (keys_of (without_number es k))
all_without P [] k h = tt
all_without P (e ∷ es) k h =
    elim (cases_Bool (is_eq (nat_cmp k e.0))) [
      | inl t ↦ rw t h.1
      | inr f ↦ rw f (h.0, all_without P es k h.1)
    ]

pub apart_without : {X : Type 0} (es : List (ℕ × X)) (k : ℕ) → AreApart es → AreApart (without_number es k)
unfolding IsDistinct
apart_without [] k h = tt
apart_without (e ∷ es) k h =
    elim (cases_Bool (is_eq (nat_cmp k e.0))) [
      | inl t ↦ rw t h.1
      | inr f ↦ rw f (all_without (λ y. eq_by_cmp nat_cmp e.0 y ≡ false) es k h.0, apart_without es k h.1)
    ]

at_without : {X : Type 0} (es : List (ℕ × X)) (k j : ℕ) → AreApart es → at_number (without_number es k) j ≡ cond (is_eq (nat_cmp k j)) None (at_number es j)
at_without es k j apart =
    lookup-remove_entry (eq_by_cmp_equiv nat_cmp_total) (is_at (nat_cmp k))
    (λ x y h. ap (λ z. is_eq (nat_cmp z y)) (number_same k x h)) j es apart

pub at_without_here : {X : Type 0} (es : List (ℕ × X)) (k : ℕ) → AreApart es → at_number (without_number es k) k ≡ None
at_without_here es k apart = at_without es k k apart ∙ rw (number_here k)

pub at_without_apart : {X : Type 0} (es : List (ℕ × X)) (k j : ℕ) → AreApart es → k ≢ j → at_number (without_number es k) j ≡ at_number es j
at_without_apart es k j apart other = at_without es k j apart ∙ rw (number_apart k j other)

-- ---- names

pub In-at_name : (names : List (List ℕ × ℕ)) (name : List ℕ) (birth : ℕ) → IsStrictlySortedBy name_cmp (keys_of names) → In (name, birth) names → at_name names name ≡ Some birth
In-at_name names name birth sorted i =
    let p = In-slice_get names (name, birth) i in
    lookup_from_place (eq_by_cmp_equiv nat_list_cmp_total) names p.0 name birth (IsDistinct-from_sorted name_cmp (keys_of names) sorted) p.2
