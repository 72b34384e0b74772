-- A file's list of mapped blocks, with one more and with fewer: its members, its order, and how many zones it uses.
use Rattle.std.specs.Prelude.{◌≡◌, ◌≢◌, ℕ, suc, ◌+◌, ◌<◌, nat_lt, Bool, true, false, ◌||◌, List, [], ◌∷◌, length, filter, refl, ◌⊎◌}
use Rattle.std.specs.List.{AllByRecursion, list_any}
use Rattle.std.specs.List.Sorted.{IsStrictlySortedBy}
use Rattle.std.specs.Ordering.{nat_cmp}
use Rattle.std.proofs.Common.{Less, sym, ap, subst, ◌∙◌, inl, inr, ⊎_elim, arith}
use Rattle.std.proofs.lemmas.Bool.{cases_Bool, ltb-true, ltb-false}
use Rattle.std.proofs.lemmas.List.Elements.{filter_agree}
use Rattle.std.proofs.lemmas.List.Kept.{IsStrictlySortedBy-filter}
use Rattle.blk_base.specs.Members.{In}
use Rattle.volume_ops.specs.declared.found.Mapped.{Mapped}
use Rattle.volume_model.specs.Volume.{Place, IsRising}
use Rattle.volume_model.specs.Counts.{indices_of, number_places, passes, uses, zones_of_file}
use Rattle.volume_model.specs.Moves.{with_mapped}

module _ (index zone : ℕ) where
  abbrev new : Mapped
  new = record { index = index; zone = zone }

  -- ---- members

  pub mapped_new : (zones : List Mapped) → In new (with_mapped zones index zone)
  mapped_new [] = inl refl
  mapped_new (m ∷ zones) = elim (cases_Bool (nat_lt index m.index)) [
    | inl t ↦ rw t (inl refl)
    | inr f ↦ rw f (inr (mapped_new zones))
  ]

  pub mapped_kept : (zones : List Mapped) (x : Mapped) → In x zones → In x (with_mapped zones index zone)
  mapped_kept [] x i = absurd i
  mapped_kept (m ∷ zones) x i = elim (cases_Bool (nat_lt index m.index)) [
    | inl t ↦ rw t (inr i)
    | inr f ↦ rw f (⊎_elim (λ e. inl e) (λ j. inr (mapped_kept zones x j)) i)
  ]

  pub mapped_cases : (zones : List Mapped) (x : Mapped) → In x (with_mapped zones index zone) → (new ≡ x) ⊎ In x zones
  mapped_cases [] x i = i
  mapped_cases (m ∷ zones) x i = elim (cases_Bool (nat_lt index m.index)) [
    | inl t ↦ rw t at i
    | inr f ↦ ⊎_elim (λ e. inr (inl e)) (λ j. ⊎_elim inl (λ k. inr (inr k)) (mapped_cases zones x j)) (rw f at i)
  ]

  -- ---- order

  less : (a b : ℕ) → a < b → nat_cmp a b ≡ Less
  less a b low = grind arith

  above_less : (a b : ℕ) → nat_cmp a b ≡ Less → a < b
  above_less a b is = grind arith

  all_above : (low k : ℕ) (ks : List ℕ) → low < k → AllByRecursion (λ y. nat_cmp k y ≡ Less) ks → AllByRecursion (λ y. nat_cmp low y ≡ Less) ks
  all_above low k [] first h = tt
  all_above low k (y ∷ ys) first h = (less low y (let next = above_less k y h.0 in omega arith), all_above low k ys first h.1)

  above_mapped : (low : ℕ) (zones : List Mapped) → low < index → AllByRecursion (λ y. nat_cmp low y ≡ Less) (indices_of zones) → AllByRecursion (λ y. nat_cmp low y ≡ Less) (indices_of (with_mapped zones index zone))
  above_mapped low [] first h = (less low index first, tt)
  above_mapped low (m ∷ zones) first h = elim (cases_Bool (nat_lt index m.index)) [
    | inl t ↦ rw t (less low index first, h)
    | inr f ↦ rw f (h.0, above_mapped low zones first h.1)
  ]

  pub rising_mapped : (zones : List Mapped) → IsRising zones → ((x : Mapped) → In x zones → x.index ≢ index) → IsRising (with_mapped zones index zone)
  unfolding IsStrictlySortedBy
  rising_mapped [] h apart = (tt, tt)
  rising_mapped (m ∷ zones) h apart = elim (cases_Bool (nat_lt index m.index)) [
    | inl t ↦ rw t ((less index m.index (ltb-true _ _ t), all_above index m.index (indices_of zones) (ltb-true _ _ t) h.0), h)
    | inr f ↦
        let high = ltb-false _ _ f in
        let other = apart m (inl refl) in
        rw f (above_mapped m.index zones (omega arith) h.0, rising_mapped zones h.1 (λ x i. apart x (inr i)))
  ]

  -- ---- zones

  any_mapped : (p : ℕ → Bool) (zones : List Mapped) → list_any p (indices_of (with_mapped zones index zone)) ≡ list_any p (index ∷ indices_of zones)
  any_mapped p [] = refl
  any_mapped p (m ∷ zones) = elim (cases_Bool (nat_lt index m.index)) [
    | inl t ↦ rw t refl
    | inr f ↦ rw f (ap (λ b. p m.index || b) (any_mapped p zones) ∙ swapped (p m.index) (p index) (list_any p (indices_of zones)))
  ]
    where
      swapped : (a b c : Bool) → (a || (b || c)) ≡ (b || (a || c))
      swapped true true c = refl
      swapped true false c = refl
      swapped false true c = refl
      swapped false false c = refl

  length_mapped : (zones : List Mapped) → length (indices_of (with_mapped zones index zone)) ≡ suc (length (indices_of zones))
  length_mapped [] = refl
  length_mapped (m ∷ zones) = elim (cases_Bool (nat_lt index m.index)) [
    | inl t ↦ rw t refl
    | inr f ↦ rw f (ap suc (length_mapped zones))
  ]

  pub zones_mapped : (zones : List Mapped) → zones_of_file (indices_of (with_mapped zones index zone)) ≡ zones_of_file (index ∷ indices_of zones)
  zones_mapped zones =
      ap (λ n. n + length (filter (uses (indices_of (with_mapped zones index zone))) number_places)) (length_mapped zones)
      ∙ ap (λ (places : List Place). suc (length (indices_of zones)) + length places)
      (filter_agree (uses (indices_of (with_mapped zones index zone))) (uses (index ∷ indices_of zones)) (λ x. any_mapped (passes x) zones) number_places)

-- ---- fewer

indices_below : (from : ℕ) (zones : List Mapped) → indices_of (filter (λ m. nat_lt m.index from) zones) ≡ filter (λ i. nat_lt i from) (indices_of zones)
indices_below from [] = refl
indices_below from (m ∷ zones) = elim (cases_Bool (nat_lt m.index from)) [
  | inl t ↦ rw t (ap (λ (is : List ℕ). m.index ∷ is) (indices_below from zones))
  | inr f ↦ rw f (indices_below from zones)
]

pub rising_below : (from : ℕ) (zones : List Mapped) → IsRising zones → IsRising (filter (λ m. nat_lt m.index from) zones)
rising_below from zones h = subst (IsStrictlySortedBy nat_cmp) (sym (indices_below from zones)) (IsStrictlySortedBy-filter nat_cmp (λ i. nat_lt i from) (indices_of zones) h)
