-- A sum over a map whose entries go to others, one to one, is the sum over those.
use Rattle.std.specs.Prelude.{◌≡◌, ◌≢◌, ℕ, ◌+◌, List, [], ◌∷◌, Some, refl}
use Rattle.std.specs.List.{sum_by}
use Rattle.std.specs.BTreeMap.{is_at}
use Rattle.std.specs.Map.{keys_of, values_of}
use Rattle.std.specs.Ordering.{nat_cmp}
use Rattle.std.proofs.Common.{sym, ap, ◌∙◌, inl, inr, arith}
use Rattle.std.proofs.lemmas.Bool.{cases_Bool}
use Rattle.std.proofs.lemmas.Cmp.{nat_cmp_total}
use Rattle.std.proofs.lemmas.List.Sums.{sum_by-cons}
use Rattle.std.proofs.lemmas.Map.Entries.{sum_by-remove_entry}
use Rattle.std.proofs.lemmas.Map.Keys.{sorted_head, sorted_tail}
use Rattle.std.proofs.lemmas.Option.{none-some}
use Rattle.tree_model.specs.Maps.{at_number, without_number}
use Rattle.tree_model.specs.laws.MapsLaws.{number_here, number_same}
use Rattle.tree_model.specs.laws.MapOrder.{InOrder, in_order_without, at_without_here, at_without_apart}
use Rattle.volume_ops.proofs.TreeUnique.{found_first, found_later}
use Rattle.volume_model.specs.laws.Trees.{found_above}

module _ {X Y : Type 0} (F : X → ℕ) (G : Y → ℕ) (to : ℕ → ℕ) where
  pub record AreMoved (es : List (ℕ × X)) (fs : List (ℕ × Y)) : Type 0 where
    pub forth : (k : ℕ) (x : X) → at_number es k ≡ Some x → (y : Y) × (at_number fs (to k) ≡ Some y) × (F x ≡ G y)
    pub back : (j : ℕ) (y : Y) → at_number fs j ≡ Some y → (k : ℕ) × (x : X) × (at_number es k ≡ Some x) × (to k ≡ j)
    pub one : (j k : ℕ) (x y : X) → at_number es j ≡ Some x → at_number es k ≡ Some y → to j ≡ to k → j ≡ k

  module _ (e : ℕ × X) (es : List (ℕ × X)) (fs : List (ℕ × Y)) (order : InOrder (e ∷ es)) (others : InOrder fs) (h : AreMoved (e ∷ es) fs) where
    first : at_number (e ∷ es) e.0 ≡ Some e.1
    first = found_first nat_cmp nat_cmp_total number_here number_same e es

    later : (k : ℕ) (x : X) → at_number es k ≡ Some x → at_number (e ∷ es) k ≡ Some x
    later k x at = found_later nat_cmp nat_cmp_total number_here number_same e es k x order at

    apart : (k : ℕ) (x : X) → at_number es k ≡ Some x → to k ≢ to e.0
    apart k x at same =
        let above = found_above e.0 k es x (sorted_head nat_cmp e.0 (keys_of es) order) at in
        let is = h.one k e.0 x e.1 (later k x at) first same in
        omega arith

    kept : (j : ℕ) (y : Y) → at_number (without_number fs (to e.0)) j ≡ Some y → (j ≢ to e.0) × (at_number fs j ≡ Some y)
    kept j y at =
        let differ : j ≢ to e.0 = λ is. none-some y (sym (ap (at_number (without_number fs (to e.0))) is ∙ at_without_here fs (to e.0) others) ∙ at) in
        (differ, sym (at_without_apart fs (to e.0) j others differ) ∙ at)

    rest : (k : ℕ) (x : X) → at_number (e ∷ es) k ≡ Some x → k ≢ e.0 → at_number es k ≡ Some x
    rest k x at differ =
        elim (cases_Bool (is_at (nat_cmp k) e.0)) [
          | inl t ↦ absurd (differ (number_same k e.0 t))
          | inr u ↦ (rw u at at)
        ]

    rest_moved : AreMoved es (without_number fs (to e.0))
    rest_moved = record {
      forth = λ k x at. (let z = h.forth k x (later k x at) in (z.0, at_without_apart fs (to e.0) (to k) others (apart k x at) ∙ z.1, z.2));
      back = λ j y at.
          let there = kept j y at in
          let z = h.back j y there.1 in
          (z.0, z.1, rest z.0 z.1 z.2 (λ is. there.0 (sym z.3 ∙ ap to is)), z.3);
      one = λ j k x y at too same. h.one j k x y (later j x at) (later k y too) same;
    }

  pub sum_moved : (es : List (ℕ × X)) (fs : List (ℕ × Y)) → InOrder es → InOrder fs → AreMoved es fs → sum_by F (values_of es) ≡ sum_by G (values_of fs)
  sum_moved [] [] order others h = refl
  sum_moved [] (f ∷ fs) order others h =
      let z = h.back f.0 f.1 (found_first nat_cmp nat_cmp_total number_here number_same f fs) in
      absurd (none-some z.1 z.2)
  sum_moved (e ∷ es) fs order others h =
      let z = h.forth e.0 e.1 (first e es fs order others h) in
      let more = sum_moved es (without_number fs (to e.0)) (sorted_tail nat_cmp e.0 (keys_of es) order) (in_order_without fs (to e.0) others) (rest_moved e es fs order others h) in
      let taken = sum_by-remove_entry G (is_at (nat_cmp (to e.0))) fs in
      let told : sum_by G (values_of (without_number fs (to e.0))) + G z.0 ≡ sum_by G (values_of fs) = (rw z.1 at taken) in
      let here = sum_by-cons F e.1 (values_of es) in
      let same = z.2 in
      omega arith
