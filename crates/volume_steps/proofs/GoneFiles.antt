-- All zones of a file that goes: those of its blocks, and those of numbers.
use Rattle.std.specs.Prelude.{◌≡◌, ◌≢◌, ℕ, zero, suc, ◌+◌, ◌<◌, ◌≤◌, nat_eq, Bool, true, false, not, ◌&&◌, List, [], ◌∷◌, ◌++◌, length, map, filter, Some, refl}
use Rattle.std.specs.List.{range_with_len}
use Rattle.std.specs.List.Sorted.{IsStrictlySortedBy}
use Rattle.std.proofs.Common.{sym, ap, subst, ◌∙◌, inl, inr, ⊎_elim, arith}
use Rattle.std.proofs.lemmas.Bool.{cases_Bool, cases_lt, cases_eq, eqb-false, ne_eqb, le-ltb, true≢false}
use Rattle.blk_base.specs.Members.{In}
use Rattle.blk_base.specs.laws.Members.{In-map, map-In, In-filter, filter-In, In-append_left, In-append_right, In-append_cases}
use Rattle.tree_model.specs.Maps.{at_number}
use Rattle.volume_ops.specs.declared.found.Mapped.{Mapped}
use Rattle.volume_model.specs.declared.placed.Placed.{Placed}
use Rattle.volume_model.specs.declared.placed.Part.TheVariants as parts
use Rattle.volume_model.specs.Counts.{indices_of, number_places, uses as uses_place}
use Rattle.volume_model.specs.Moves.{IsVolume, page_of}
use Rattle.volume_model.specs.Touched.{Page}
use Rattle.tree_model.specs.Calls.{node_zones}
use Rattle.volume_model.specs.Trees.{node_now}
use Rattle.volume_model.specs.Volume.{Place, block, indirect, double, inner, zone_in, IsPart, IsFilePart, IsRising, IsOfNumbers, at_indirect, at_double, at_inner}
use Rattle.volume_model.specs.laws.Counts.{IsIndexed, used_or_hole}
use Rattle.volume_model.specs.laws.Indexed.{file_indexed}
use Rattle.volume_model.specs.laws.Ways.{own_none}
use Rattle.volume_model.specs.laws.ZoneMoves.{no_numbers}
use Rattle.volume_steps.specs.Now.{VolumeNow}
use Rattle.volume_steps.specs.Steps.{all_numbers, block_zones, metadata_gone, pages_gone}
use Rattle.volume_steps.proofs.CutStep.{places_apart, of_numbers_place, above_all, length_map, length_both, filter_agree_in}
use Rattle.volume_steps.proofs.Files.{node_zones_are}
use Rattle.volume_steps.proofs.Grows.{is_directory_part}
use Rattle.volume_steps.proofs.Taking.{AreApart, apart_both}
use Rattle.volume_steps.proofs.Drops.{IsGone}

pub in_from : (a n k : ℕ) → a ≤ k → k < a + n → In k (range_with_len a n)
in_from a zero k low high = absurd (omega arith)
in_from a (suc n) k low high = elim (cases_eq a k) [ inl e ↦ inl e | inr far ↦ inr (in_from (a + 1) n k (omega arith) (omega arith)) ]

module _ (v : VolumeNow) (h : IsVolume v.geometry v.contents) (n : ℕ) (p : Placed) (at : at_number v.contents.nodes n ≡ Some p) where
  abbrev own : Place → ℕ
  own x = zone_in v.contents.blocks p.inode x

  abbrev goes : Place → Bool
  goes x = not (nat_eq (own x) 0) && not false

  abbrev numbers : List ℕ
  numbers = all_numbers v.contents p

  pub one_place : (x y : Place) → own x ≡ own y → own x ≢ 0 → x ≡ y
  one_place x y same some = (h.0.zones n n p p x y at at same some).1

  pub goes_some : (x : Place) → goes x ≡ true → own x ≢ 0
  goes_some x t = by (nat_eq (own x) 0) refl t
    where
      by : (b : Bool) → nat_eq (own x) 0 ≡ b → (not b && true) ≡ true → own x ≢ 0
      by true e t = absurd (true≢false (sym t))
      by false e t = eqb-false _ _ e

  pub some_goes : (x : Place) → own x ≢ 0 → goes x ≡ true
  some_goes x some = rw (ne_eqb (own x) 0 some) refl

  in_places : (x : Place) → IsOfNumbers x → own x ≢ 0 → In x number_places
  in_places indirect numbers some = inl refl
  in_places double numbers some = inr (inl refl)
  in_places (inner k) numbers some = elim (cases_lt k 512) [
    | inl low ↦ inr (inr (map-In inner (range_with_len 0 512) k (in_from 0 512 k (omega arith) (omega arith))))
    | inr high ↦ absurd (some (own_none v.contents.blocks p.inode h.0.whole (inner k) (rw (le-ltb k 512 high) refl)))
  ]
  in_places (block i) numbers some = elim numbers [ ]

  pub number_in : (x : Place) → IsOfNumbers x → own x ≢ 0 → In (own x) numbers
  number_in x is some = map-In own (filter goes number_places) x (filter-In goes number_places x (in_places x is some) (some_goes x some))

  pub in_number : (z : ℕ) → In z numbers → (x : Place) × IsOfNumbers x × (own x ≢ 0) × (own x ≡ z)
  in_number z i =
      let w = In-map own (filter goes number_places) z i in
      let f = In-filter goes number_places w.0 w.1 in
      (w.0, of_numbers_place w.0 f.0, goes_some w.0 f.1, w.2)

  numbers_apart : (xs : List Place) → AreApart xs → AreApart (map own (filter goes xs))
  numbers_apart [] apart = tt
  numbers_apart (x ∷ xs) apart = elim (cases_Bool (goes x)) [
    | inr f ↦ rw f (numbers_apart xs apart.1)
    | inl t ↦ rw t (alone t, numbers_apart xs apart.1)
  ]
    where
      alone : goes x ≡ true → In (own x) (map own (filter goes xs)) → ⊥
      alone t i =
          let w = In-map own (filter goes xs) (own x) i in
          let y = (In-filter goes xs w.0 w.1).0 in
          let same : x ≡ w.0 = one_place x w.0 (sym w.2) (goes_some x t) in
          apart.0 (subst (λ z. In z xs) (sym same) y)

  pub numbers_once : AreApart numbers
  numbers_once = numbers_apart number_places places_apart

  -- ---- a file

  module _ (zones : List Mapped) (is : p.part ≡ parts.File zones) where
    part : IsFilePart v.contents.blocks p.inode zones
    part = subst (IsPart v.geometry v.contents.blocks p.inode) is (h.0.each n p at).part

    abbrev data_zones : List ℕ
    data_zones = map (λ (m : Mapped). m.zone) zones

    data_at : (z : ℕ) → In z data_zones → (m : Mapped) × In m zones × (own (block m.index) ≡ z) × (own (block m.index) ≢ 0)
    data_at z i =
        let w = In-map (λ (m : Mapped). m.zone) zones z i in
        let told = part.listed w.0 w.1 in
        (w.0, w.1, told.0 ∙ w.2, (λ none. told.1 (sym told.0 ∙ none)))

    data_in : (i : ℕ) → own (block i) ≢ 0 → In (own (block i)) data_zones
    data_in i some = map-In (λ (m : Mapped). m.zone) zones (record { index = i; zone = own (block i) }) (part.full i some)

    zones_apart : (ms : List Mapped) → ((m : Mapped) → In m ms → In m zones) → IsRising ms → AreApart (map (λ (m : Mapped). m.zone) ms)
    unfolding IsStrictlySortedBy
    zones_apart [] all rising = tt
    zones_apart (m ∷ ms) all rising = (alone, zones_apart ms (λ y i. all y (inr i)) rising.1)
      where
        alone : In m.zone (map (λ (m : Mapped). m.zone) ms) → ⊥
        alone i =
            let w = In-map (λ (m : Mapped). m.zone) ms m.zone i in
            let here = part.listed m (all m (inl refl)) in
            let there = part.listed w.0 (all w.0 (inr w.1)) in
            let above = above_all m.index ms rising.0 w.0 w.1 in
            let same : block m.index ≡ block w.0.index = one_place (block m.index) (block w.0.index) (here.0 ∙ (sym w.2 ∙ sym there.0)) (λ none. here.1 (sym here.0 ∙ none)) in
            let e : m.index ≡ w.0.index = cc same in
            omega arith

    abbrev gone : List ℕ
    gone = data_zones ++ numbers

    pub file_gone : IsGone own n false gone numbers (map (page_of n) zones)
    file_gone = record {
      all = all_in;
      has = λ z i. ⊎_elim (λ j. let w = data_at z j in (block w.0.index, w.3, w.2)) (λ j. let w = in_number z j in (w.0, w.2, w.3)) (In-append_cases data_zones numbers z i);
      once = apart_both data_zones numbers (zones_apart zones (λ m i. i) part.rising) numbers_once (λ z i j.
          let w = data_at z i in
          let y = in_number z j in
          no_numbers y.0 w.0.index (one_place y.0 (block w.0.index) (y.3 ∙ sym w.2) y.2) y.1);
      meta = λ x some kind. ⊎_elim (λ is. number_in x is some) (λ t. absurd (true≢false (sym t))) kind;
      meta_has = λ z i. (let w = in_number z i in (w.0, w.2, w.3));
      pages = λ y i.
          let w = In-map (page_of n) zones y i in
          let told = part.listed w.0 w.1 in
          (sym (ap (λ (y : Page). y.birth) w.2), subst (λ (y : Page). own (block y.index) ≡ y.zone) w.2 told.0, (λ none. told.1 (ap (λ (y : Page). y.zone) w.2 ∙ none)), refl);
      pages_all = λ kind index some. map-In (page_of n) zones (record { index = index; zone = own (block index) }) (part.full index some);
    }
      where
        all_in : (x : Place) → own x ≢ 0 → In (own x) gone
        all_in (block i) some = In-append_left data_zones numbers (own (block i)) (data_in i some)
        all_in indirect some = In-append_right data_zones numbers (own indirect) (number_in indirect at_indirect some)
        all_in double some = In-append_right data_zones numbers (own double) (number_in double at_double some)
        all_in (inner k) some = In-append_right data_zones numbers (own (inner k)) (number_in (inner k) at_inner some)

    indexed : IsIndexed own (indices_of zones)
    indexed = file_indexed v.geometry v.contents.blocks v.contents.nodes n p zones h.0 at is (h.1 n p at)

    sums : (a b c d e f t : ℕ) → a ≡ b → c ≡ d → d ≡ e → f ≡ b → t ≡ a + c → t ≡ f + e
    sums a b c d e f t p q r s x = omega arith

    same_test : (x : Place) → IsOfNumbers x → goes x ≡ uses_place (indices_of zones) x
    same_test x m = ap (λ b. not b && not false) (used_or_hole own (indices_of zones) indexed x m) ∙ back (uses_place (indices_of zones) x)
      where
        back : (b : Bool) → (not (not b) && not false) ≡ b
        back true = refl
        back false = refl

    -- they are as many as the tree counts
    pub file_counted : length gone ≡ node_zones (node_now v.contents.blocks p)
    file_counted =
        sums (length data_zones) (length zones) (length numbers) (length (filter goes number_places)) (length (filter (uses_place (indices_of zones)) number_places)) (length (indices_of zones)) (length gone)
        (length_map (λ (m : Mapped). m.zone) zones) (length_map own (filter goes number_places))
        (ap length (filter_agree_in goes (uses_place (indices_of zones)) number_places (λ x i. same_test x (of_numbers_place x i))))
        (length_map (λ (m : Mapped). m.index) zones) (length_both data_zones numbers)
        ∙ sym (node_zones_are v.contents.blocks p zones is part.rising)

  -- so by its part
  pub lists_of_file : (zones : List Mapped) → p.part ≡ parts.File zones →
      IsGone own n (is_directory_part p.part) (block_zones v.contents p p.part ++ all_numbers v.contents p) (metadata_gone v.contents p p.part) (pages_gone n p.part)
  lists_of_file zones is = subst (λ part. IsGone own n (is_directory_part part) (block_zones v.contents p part ++ all_numbers v.contents p) (metadata_gone v.contents p part) (pages_gone n part)) (sym is) (file_gone zones is)

  pub count_of_file : (zones : List Mapped) → p.part ≡ parts.File zones → length (block_zones v.contents p p.part ++ all_numbers v.contents p) ≡ node_zones (node_now v.contents.blocks p)
  count_of_file zones is = ap (λ part. length (block_zones v.contents p part ++ all_numbers v.contents p)) is ∙ file_counted zones is
