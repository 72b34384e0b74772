-- A name and its slot go: names and slots still say the same.
use Rattle.std.specs.Prelude.{◌≡◌, ◌≢◌, ℕ, suc, ◌<◌, false, cond, List, [], ◌∷◌, length, slice_set, Some, None, refl}
use Rattle.std.specs.List.{slice_get}
use Rattle.std.specs.List.Sorted.{IsStrictlySortedBy}
use Rattle.std.specs.Map.{keys_of}
use Rattle.std.specs.BTreeMap.{is_at}
use Rattle.std.proofs.Common.{sym, ap, subst, ◌∙◌, inl, inr, arith}
use Rattle.std.proofs.lemmas.Bool.{cases_Bool, cases_eq, true≢false}
use Rattle.std.proofs.lemmas.Option.{none-some, same_Some}
use Rattle.std.proofs.lemmas.Map.{lookup-remove_entry}
use Rattle.std.proofs.lemmas.Cmp.{eq_by_cmp_equiv, nat_list_cmp_total}
use Rattle.std.proofs.lemmas.Map.Keys.{IsDistinct-from_sorted}
use Rattle.blk_base.specs.laws.Members.{slice_get-set_same, slice_get-set_other, slice_get-length}
use Rattle.minix_layout.specs.declared.slot.Slot.{Slot}
use Rattle.tree_model.specs.Maps.{at_name, name_cmp}
use Rattle.tree_model.specs.laws.MapsLaws.{name_here, name_same}
use Rattle.tree_model.specs.Paths.{is_dot}
use Rattle.volume_model.specs.declared.placed.Placed.{Placed}
use Rattle.volume_model.specs.declared.placed.DirectoryPart.{DirectoryPart}
use Rattle.minix_tables.specs.directories.laws.Slots.{free-count}
use Rattle.volume_model.specs.Volume.{HasNames}
use Rattle.volume_model.specs.Moves.{without}

-- what stands in the names afterwards
pub at_without : {X : Type 0} (names : List (List ℕ × X)) (name other : List ℕ) → IsStrictlySortedBy name_cmp (keys_of names) →
    at_name (without names name) other ≡ cond (is_at (name_cmp name) other) None (at_name names other)
at_without names name other sorted =
    let laws = eq_by_cmp_equiv nat_list_cmp_total in
    lookup-remove_entry laws (is_at (name_cmp name)) (λ x y t. laws.congr name x y t) other names (IsDistinct-from_sorted name_cmp (keys_of names) sorted)

length-without : {X : Type 0} (names : List (List ℕ × X)) (name : List ℕ) (x : X) → at_name names name ≡ Some x → length names ≡ suc (length (without names name))
length-without [] name x h = absurd (cc)
length-without (e ∷ es) name x h =
    elim (cases_Bool (is_at (name_cmp name) e.0)) [
      | inl t ↦ rw t refl
      | inr f ↦ rw f (ap suc (length-without es name x (rw f at h)))
    ]

module _ (nodes : List (ℕ × Placed)) (d : DirectoryPart) (k : ℕ) (s : Slot) (h : HasNames nodes d) (sorted : IsStrictlySortedBy name_cmp (keys_of d.names))
    (stands : slice_get d.slots k ≡ Some (Some s)) (no_dot : is_dot s.name ≡ false) where
  inside : k < length d.slots
  inside = slice_get-length d.slots k (Some s) stands

  at_other : (name : List ℕ) (birth : ℕ) → at_name (without d.names s.name) name ≡ Some birth → (s.name ≢ name) × (at_name d.names name ≡ Some birth)
  at_other name birth at =
      let told = sym (at_without d.names s.name name sorted) ∙ at in
      elim (cases_Bool (is_at (name_cmp s.name) name)) [
        | inl t ↦ absurd (none-some birth (rw t at told))
        | inr f ↦ (λ e. true≢false (sym (name_here s.name) ∙ (ap (is_at (name_cmp s.name)) e ∙ f)), (rw f at told))
      ]

  kept_at : (name : List ℕ) (birth : ℕ) → s.name ≢ name → at_name d.names name ≡ Some birth → at_name (without d.names s.name) name ≡ Some birth
  kept_at name birth apart at =
      at_without d.names s.name name sorted ∙
      elim (cases_Bool (is_at (name_cmp s.name) name)) [
        | inl t ↦ absurd (apart (name_same s.name name t))
        | inr f ↦ rw f at
      ]

  old_slot : (j : ℕ) (t : Slot) → slice_get (slice_set d.slots k None) j ≡ Some (Some t) → (j ≢ k) × (slice_get d.slots j ≡ Some (Some t))
  old_slot j t at =
      elim (cases_eq j k) [
        | inl e ↦ absurd (none-some t (same_Some None (Some t) (sym (slice_get-set_same d.slots k None inside) ∙ subst (λ j. slice_get (slice_set d.slots k None) j ≡ Some (Some t)) e at)))
        | inr a ↦ (a, sym (slice_get-set_other d.slots k j None a) ∙ at)
      ]

  pub names_without : HasNames nodes (record { parent = d.parent; width = d.width; names = without d.names s.name; slots = slice_set d.slots k None })
  names_without = record {
    named = λ name birth at.
        let old = at_other name birth at in
        let m = h.named name birth old.1 in
        let apart : m.place ≢ k = λ e. old.0 (ap (λ (t : Slot). t.name) (same_Some s m.slot (same_Some (Some s) (Some m.slot) (sym stands ∙ subst (λ j. slice_get d.slots j ≡ Some (Some m.slot)) e m.stands))) ∙ m.name_is) in
        record { place = m.place; slot = m.slot; stands = slice_get-set_other d.slots k m.place None apart ∙ m.stands; name_is = m.name_is; no_dot = m.no_dot; number = m.number };
    full = λ j t at dot.
        let old = old_slot j t at in
        let f = h.full j t old.1 dot in
        (f.0, kept_at t.name f.0 (λ e. old.0 (sym (h.once k j s t stands old.1 e))) f.1, f.2);
    count =
        let some = h.full k s stands no_dot in
        let one = length-without d.names s.name some.0 some.1 in
        let less = free-count d.slots k s stands in
        let was = h.count in
        omega arith;
    once = λ i j t u at bt same. h.once i j t u (old_slot i t at).1 (old_slot j u bt).1 same;
  }
