-- A directory has as many slots in use as names, where each name has one slot and each slot one name.
use Rattle.std.specs.Prelude.{◌≡◌, ◌≢◌, ℕ, suc, List, [], ◌∷◌, length, slice_set, Option, Some, None, refl}
use Rattle.std.specs.List.{slice_get, AllByRecursion}
use Rattle.std.specs.List.Sorted.{IsStrictlySortedBy}
use Rattle.std.specs.Ordering.{is_eq}
use Rattle.std.proofs.Common.{Less, sym, ap, subst, ◌∙◌, inl, inr, ⊎_elim}
use Rattle.std.proofs.lemmas.Bool.{true≢false, cases_eq}
use Rattle.std.proofs.lemmas.Map.Keys.{sorted_head, sorted_tail}
use Rattle.std.proofs.lemmas.Option.{none-some, same_Some}
use Rattle.blk_base.specs.Members.{In}
use Rattle.blk_base.specs.laws.Members.{slice_get-length, slice_get-set_same, slice_get-set_other}
use Rattle.minix_layout.specs.declared.slot.Slot.{Slot}
use Rattle.tree_model.specs.Maps.{name_cmp}
use Rattle.tree_model.specs.laws.MapsLaws.{name_here}
use Rattle.minix_tables.specs.directories.Slots.{used_count}
use Rattle.minix_tables.specs.directories.laws.Slots.{free-count}

-- no name stands twice
abbrev pub AllDiffer : List (List ℕ) → Type 0
AllDiffer [] = Unit {0}
AllDiffer (n ∷ ns) = (In n ns → ⊥) × AllDiffer ns

less_apart : (n : List ℕ) (ns : List (List ℕ)) → AllByRecursion (λ y. name_cmp n y ≡ Less) ns → In n ns → ⊥
less_apart n [] above i = i
less_apart n (m ∷ ms) above (inl e) = true≢false (sym (name_here n) ∙ ap is_eq (ap (name_cmp n) (sym e) ∙ above.0))
less_apart n (m ∷ ms) above (inr i) = less_apart n ms above.1 i

pub sorted_differ : (ns : List (List ℕ)) → IsStrictlySortedBy name_cmp ns → AllDiffer ns
sorted_differ [] sorted = tt
sorted_differ (n ∷ ns) sorted = (less_apart n ns (sorted_head name_cmp n ns sorted), sorted_differ ns (sorted_tail name_cmp n ns sorted))

-- these names stand in these slots, each in one
pub record AreNamesOf (slots : List (Option Slot)) (names : List (List ℕ)) : Type 0 where
  pub differ : AllDiffer names
  pub placed : (n : List ℕ) → In n names → (k : ℕ) × (s : Slot) × (slice_get slots k ≡ Some (Some s)) × (s.name ≡ n)
  pub named : (k : ℕ) (s : Slot) → slice_get slots k ≡ Some (Some s) → In s.name names
  pub once : (j k : ℕ) (s t : Slot) → slice_get slots j ≡ Some (Some s) → slice_get slots k ≡ Some (Some t) → s.name ≡ t.name → j ≡ k

none_used : (slots : List (Option Slot)) → ((k : ℕ) (s : Slot) → slice_get slots k ≡ Some (Some s) → ⊥) → used_count slots ≡ 0
none_used [] none = refl
none_used (None ∷ slots) none = none_used slots (λ k s at. none (suc k) s at)
none_used (Some s ∷ slots) none = absurd (none 0 s refl)

-- the first name and its slot go
rest_named : (n : List ℕ) (ns : List (List ℕ)) (slots : List (Option Slot)) → AreNamesOf slots (n ∷ ns) → (k : ℕ) (s : Slot) → slice_get slots k ≡ Some (Some s) → s.name ≡ n →
    AreNamesOf (slice_set slots k None) ns
rest_named n ns slots h k s at is = record {
  differ = h.differ.1;
  placed = λ m i.
      let x = h.placed m (inr i) in
      (x.0, x.1, slice_get-set_other slots k x.0 None (λ e. h.differ.0 (subst (λ m. In m ns) (sym x.3 ∙ (same x.0 x.1 x.2 e ∙ is)) i)) ∙ x.2, x.3);
  named = λ j t to.
      let y = left j t to in
      ⊎_elim (λ e. absurd (y.0 (h.once j k t s y.1 at (sym e ∙ sym is)))) (λ i. i) (h.named j t y.1);
  once = λ i j t u to uo e. h.once i j t u (left i t to).1 (left j u uo).1 e;
}
  where
    same : (j : ℕ) (t : Slot) → slice_get slots j ≡ Some (Some t) → j ≡ k → t.name ≡ s.name
    same j t to e = ap (λ (s : Slot). s.name) (same_Some t s (same_Some (Some t) (Some s) (sym to ∙ (ap (slice_get slots) e ∙ at))))

    left : (j : ℕ) (t : Slot) → slice_get (slice_set slots k None) j ≡ Some (Some t) → (j ≢ k) × (slice_get slots j ≡ Some (Some t))
    left j t to =
        ⊎_elim
        (λ e. absurd (none-some t (same_Some None (Some t) (sym (ap (slice_get (slice_set slots k None)) e ∙ slice_get-set_same slots k None (slice_get-length slots k (Some s) at)) ∙ to))))
        (λ apart. (apart, sym (slice_get-set_other slots k j None apart) ∙ to))
        (cases_eq j k)

pub used_is : (names : List (List ℕ)) (slots : List (Option Slot)) → AreNamesOf slots names → used_count slots ≡ length names
used_is [] slots h = none_used slots (λ k s at. h.named k s at)
used_is (n ∷ ns) slots h =
    let x = h.placed n (inl refl) in
    sym (free-count slots x.0 x.1 x.2) ∙ ap suc (used_is ns (slice_set slots x.0 None) (rest_named n ns slots h x.0 x.1 x.2 x.3))
