-- Holes in a file's list of mapped blocks: a hole that gets a zone is the mapped block.
use Rattle.std.specs.Prelude.{◌≡◌, ◌≢◌, ℕ, zero, suc, ◌+◌, ◌-◌, ◌<◌, ◌≤◌, ◌==◌, nat_lt, Bool, true, false, if◌then◌else◌, List, [], ◌∷◌, length, filter, map, take, Option, Some, Result, Ok, Err, refl, ◌⊎◌}
use Rattle.std.specs.List.{slice_get, insert, list_any, range_with_len, AllByRecursion}
use Rattle.std.specs.List.Sorted.{IsStrictlySortedBy, IsPartitionedBy, IsPartitionPoint}
use Rattle.std.specs.Ordering.{nat_cmp}
use Rattle.std.proofs.Common.{Less, get_or, set, sym, ap, subst, ◌∙◌, inl, inr, ⊎_elim, arith}
use Rattle.std.proofs.lemmas.Bool.{cases_Bool, cases_eq, eqb-true, eqb-false, eq-eqb, ne_eqb, lt-ltb, le-ltb, ltb-true, ltb-false, true≢false, false≢true}
use Rattle.std.proofs.lemmas.Option.{same_Some, none-some, slice_get-get_or}
use Rattle.blk_base.specs.Members.{In, IsAscending}
use Rattle.blk_base.specs.laws.Members.{IsAscending-places, slice_get-In, slice_get-length, list_any-In, list_any-none, In-list_any}
use Rattle.number_sets.specs.Keyed.{put_by}
use Rattle.number_sets.specs.laws.Keyed.{IsKeyPlace, KeyStandsAt, KeyBelongsAt}
use Rattle.volume_ops.specs.declared.found.Mapped.{Mapped}
use Rattle.volume_model.specs.Counts.{indices_of}
use Rattle.volume_model.specs.Holes.{IsRising, has_index, with_mapped, with_hole, with_holes, with_zone}
use Rattle.volume_model.specs.laws.Mapped.{mapped_kept, mapped_cases, mapped_new, rising_mapped}

abbrev pub index_of : Mapped → ℕ
index_of m = m.index

-- ---- order

below_all : (k : ℕ) (zones : List Mapped) → AllByRecursion (λ y. nat_cmp k y ≡ Less) (indices_of zones) → (m : Mapped) → In m zones → k < m.index
below_all k [] h m i = absurd i
below_all k (z ∷ zones) h m (inl e) = subst (λ (m : Mapped). k < m.index) e (let less = h.0 in grind (arith, less))
below_all k (z ∷ zones) h m (inr i) = below_all k zones h.1 m i

pub rising_ascending : (zones : List Mapped) → IsRising zones → IsAscending index_of zones
unfolding IsStrictlySortedBy
rising_ascending [] h = tt
rising_ascending (m ∷ zones) h = (below_all m.index zones h.0, rising_ascending zones h.1)

-- ---- members

pub no_index : (zones : List Mapped) (index : ℕ) → has_index zones index ≡ false → (m : Mapped) → In m zones → m.index ≢ index
no_index zones index none m i e = true≢false (sym (list_any-In (λ (m : Mapped). m.index == index) zones m i (eq-eqb m.index index e)) ∙ none)

pub index_none : (zones : List Mapped) (index : ℕ) → ((m : Mapped) → In m zones → m.index ≢ index) → has_index zones index ≡ false
index_none zones index none = list_any-none (λ (m : Mapped). m.index == index) zones (λ m i. ne_eqb m.index index (none m i))

pub rising_hole : (zones : List Mapped) (index : ℕ) → IsRising zones → IsRising (with_hole zones index)
rising_hole zones index h = elim (cases_Bool (has_index zones index)) [
  | inl y ↦ rw y h
  | inr n ↦ rw n (rising_mapped index 0 zones h (no_index zones index n))
]

pub indices_zone : (zones : List Mapped) (index zone : ℕ) → indices_of (with_zone zones index zone) ≡ indices_of zones
indices_zone [] index zone = refl
indices_zone (m ∷ zones) index zone = elim (cases_Bool (m.index == index)) [
  | inl y ↦ rw y (ap (λ (k : ℕ). k ∷ indices_of zones) (sym (eqb-true m.index index y)))
  | inr n ↦ rw n (ap (λ (ks : List ℕ). m.index ∷ ks) (indices_zone zones index zone))
]

pub rising_zone : (zones : List Mapped) (index zone : ℕ) → IsRising zones → IsRising (with_zone zones index zone)
rising_zone zones index zone h = subst (IsStrictlySortedBy nat_cmp) (sym (indices_zone zones index zone)) h

pub zone_none : (zones : List Mapped) (index zone : ℕ) → ((m : Mapped) → In m zones → m.index ≢ index) → with_zone zones index zone ≡ zones
zone_none [] index zone none = refl
zone_none (m ∷ zones) index zone none = rw (ne_eqb m.index index (none m (inl refl))) (ap (λ (ms : List Mapped). m ∷ ms) (zone_none zones index zone (λ m i. none m (inr i))))

-- ---- places

put_mapped : (zones : List Mapped) (index zone : ℕ) → ((m : Mapped) → In m zones → m.index ≢ index) → put_by index_of zones (record { index = index; zone = zone }) ≡ with_mapped zones index zone
put_mapped [] index zone none = refl
put_mapped (m ∷ zones) index zone none = rw (ne_eqb m.index index (none m (inl refl))) (elim (cases_Bool (nat_lt index m.index)) [
  | inl y ↦ rw y refl
  | inr n ↦ rw n (ap (λ (ms : List Mapped). m ∷ ms) (put_mapped zones index zone (λ m i. none m (inr i))))
])

pub hole_there : (zones : List Mapped) (index at : ℕ) → KeyStandsAt index_of zones index at → zones ≡ with_hole zones index
hole_there zones index at p = let yes : has_index zones index ≡ true = list_any-In (λ (m : Mapped). m.index == index) zones p.here (slice_get-In zones at p.here p.read) (eq-eqb p.here.index index p.same) in rw yes refl

pub hole_put : (zones : List Mapped) (index at : ℕ) → KeyBelongsAt index_of zones index at → insert zones at (record { index = index; zone = 0 }) ≡ with_hole zones index
hole_put zones index at p =
    let no : has_index zones index ≡ false = index_none zones index p.none in
    rw no (sym (p.put (record { index = index; zone = 0 }) refl) ∙ put_mapped zones index 0 p.none)

zone_put : (zones : List Mapped) (index zone at : ℕ) (x : Mapped) → IsAscending index_of zones → slice_get zones at ≡ Some x → x.index ≡ index → set zones at (record { index = index; zone = zone }) ≡ with_zone zones index zone
zone_put [] index zone at x a e k = absurd (none-some x e)
zone_put (m ∷ zones) index zone zero x a e k = let here : (m.index == index) ≡ true = eq-eqb m.index index (ap index_of (same_Some m x e) ∙ k) in rw here refl
zone_put (m ∷ zones) index zone (suc at) x a e k =
    let less = a.0 x (slice_get-In zones at x e) in
    let other : (m.index == index) ≡ false = ne_eqb m.index index (λ d. omega (arith, less, d, k)) in
    rw other (ap (λ (ms : List Mapped). m ∷ ms) (zone_put zones index zone at x a.1 e k))

pub zone_there : (zones : List Mapped) (index zone at : ℕ) → IsRising zones → KeyStandsAt index_of zones index at → set zones at (record { index = index; zone = zone }) ≡ with_zone zones index zone
zone_there zones index zone at h p = zone_put zones index zone at p.here (rising_ascending zones h) p.read p.same

pub zone_not_there : (zones : List Mapped) (index zone at : ℕ) → KeyBelongsAt index_of zones index at → zones ≡ with_zone zones index zone
zone_not_there zones index zone at p = sym (zone_none zones index zone p.none)

-- ---- holes that get a zone

pub zone_of_hole : (zones : List Mapped) (index zone : ℕ) → ((m : Mapped) → In m zones → m.index ≢ index) → with_zone (with_mapped zones index 0) index zone ≡ with_mapped zones index zone
zone_of_hole [] index zone none = rw (eq-eqb index index refl) refl
zone_of_hole (m ∷ zones) index zone none = elim (cases_Bool (nat_lt index m.index)) [
  | inl y ↦ rw (y, eq-eqb index index refl) refl
  | inr n ↦ rw (n, ne_eqb m.index index (none m (inl refl))) (ap (λ (ms : List Mapped). m ∷ ms) (zone_of_hole zones index zone (λ m i. none m (inr i))))
]

-- a hole elsewhere may come before or after
zone_past_hole : (zones : List Mapped) (index zone other : ℕ) → other ≢ index → with_zone (with_mapped zones other 0) index zone ≡ with_mapped (with_zone zones index zone) other 0
zone_past_hole [] index zone other apart = rw (ne_eqb other index apart) refl
zone_past_hole (m ∷ zones) index zone other apart = elim (cases_Bool (nat_lt other m.index)) [
  | inl y ↦ elim (cases_Bool (m.index == index)) [
    | inl here ↦
        let low : nat_lt other index ≡ true = ap (nat_lt other) (sym (eqb-true m.index index here)) ∙ y in
        rw (y, ne_eqb other index apart, here, low) refl
    | inr there ↦ rw (y, ne_eqb other index apart, there, y) refl
  ]
  | inr n ↦ elim (cases_Bool (m.index == index)) [
    | inl here ↦
        let high : nat_lt other index ≡ false = ap (nat_lt other) (sym (eqb-true m.index index here)) ∙ n in
        rw (n, here, high) refl
    | inr there ↦ rw (n, there, n) (ap (λ (ms : List Mapped). m ∷ ms) (zone_past_hole zones index zone other apart))
  ]
]

has_zone : (zones : List Mapped) (index zone other : ℕ) → has_index (with_zone zones index zone) other ≡ has_index zones other
has_zone zones index zone other = sym (any_index (with_zone zones index zone)) ∙ (ap (list_any (λ k. k == other)) (indices_zone zones index zone) ∙ any_index zones)
  where
    any_index : (zones : List Mapped) → list_any (λ k. k == other) (indices_of zones) ≡ has_index zones other
    any_index [] = refl
    any_index (m ∷ zones) = elim (cases_Bool (m.index == other)) [ inl y ↦ rw y refl | inr n ↦ rw n (any_index zones) ]

-- A zone that is set while holes are there is set before they come.
pub zone_first : (indices : List ℕ) (zones : List Mapped) (index zone : ℕ) → has_index zones index ≡ true → with_zone (with_holes zones indices) index zone ≡ with_holes (with_zone zones index zone) indices
zone_first [] zones index zone there = refl
zone_first (i ∷ is) zones index zone there = elim (cases_Bool (has_index zones i)) [
  | inl y ↦
      let same : with_hole zones i ≡ zones = rw y refl in
      let also : with_hole (with_zone zones index zone) i ≡ with_zone zones index zone = rw (has_zone zones index zone i ∙ y) refl in
      ap (λ (ms : List Mapped). with_zone (with_holes ms is) index zone) same ∙ (zone_first is zones index zone there ∙ ap (λ (ms : List Mapped). with_holes ms is) (sym also))
  | inr n ↦
      let apart : i ≢ index = λ e. false≢true (sym n ∙ (ap (has_index zones) e ∙ there)) in
      let put : with_hole zones i ≡ with_mapped zones i 0 = rw n refl in
      let also : with_hole (with_zone zones index zone) i ≡ with_mapped (with_zone zones index zone) i 0 = rw (has_zone zones index zone i ∙ n) refl in
      let old = In-list_any (λ (m : Mapped). m.index == index) zones there in
      let still : has_index (with_mapped zones i 0) index ≡ true = list_any-In (λ (m : Mapped). m.index == index) (with_mapped zones i 0) old.0 (mapped_kept i 0 zones old.0 old.1) old.2 in
      ap (λ (ms : List Mapped). with_zone (with_holes ms is) index zone) put
      ∙ (zone_first is (with_mapped zones i 0) index zone still
      ∙ (ap (λ (ms : List Mapped). with_holes ms is) (zone_past_hole zones index zone i apart)
      ∙ ap (λ (ms : List Mapped). with_holes ms is) (sym also)))
]

-- The first of the holes gets a zone: the block is mapped, and the others wait.
pub hole_mapped : (indices : List ℕ) (zones : List Mapped) (index zone : ℕ) → ((m : Mapped) → In m zones → m.index ≢ index) →
    with_zone (with_holes zones (index ∷ indices)) index zone ≡ with_holes (with_mapped zones index zone) indices
hole_mapped indices zones index zone none =
    let put : with_hole zones index ≡ with_mapped zones index 0 = rw (index_none zones index none) refl in
    let new : Mapped = record { index = index; zone = 0 } in
    let there : has_index (with_mapped zones index 0) index ≡ true = list_any-In (λ (m : Mapped). m.index == index) (with_mapped zones index 0) new (mapped_new index 0 zones) (eq-eqb index index refl) in
    ap (λ (ms : List Mapped). with_zone (with_holes ms indices) index zone) put
    ∙ (zone_first indices (with_mapped zones index 0) index zone there
    ∙ ap (λ (ms : List Mapped). with_holes ms indices) (zone_of_hole zones index zone none))

-- ---- a cut

-- all before a place are below, and all from it on are not
cut_at : (zones : List Mapped) (from at : ℕ) → at ≤ length zones → ((k : ℕ) (m : Mapped) → slice_get zones k ≡ Some m → k < at → nat_lt m.index from ≡ true) →
    ((k : ℕ) (m : Mapped) → slice_get zones k ≡ Some m → at ≤ k → nat_lt m.index from ≡ false) → take at zones ≡ filter (λ m. nat_lt m.index from) zones
cut_at [] from zero within low high = refl
cut_at [] from (suc at) within low high = refl
cut_at (m ∷ zones) from zero within low high =
    rw (high 0 m refl (omega arith)) (cut_at zones from zero (omega arith) (λ k x e lt. absurd (omega arith)) (λ k x e le. high (suc k) x e (omega arith)))
cut_at (m ∷ zones) from (suc at) within low high =
    rw (low 0 m refl (omega arith)) (ap (λ (ms : List Mapped). m ∷ ms)
    (cut_at zones from at (omega arith) (λ k x e lt. low (suc k) x e (omega arith)) (λ k x e le. high (suc k) x e (omega arith))))

rises : (zones : List Mapped) → IsAscending index_of zones → (i j : ℕ) (d : Mapped) → i ≤ j → j < length zones → index_of (get_or zones i d) ≤ index_of (get_or zones j d)
rises zones a i j d le lt = elim (cases_eq i j) [
  | inl e ↦ subst (λ k. index_of (get_or zones i d) ≤ index_of (get_or zones k d)) e (omega arith)
  | inr ne ↦ (let less = IsAscending-places index_of zones i j (get_or zones i d) (get_or zones j d) a (omega arith) (slice_get-get_or zones i d (omega arith)) (slice_get-get_or zones j d lt) in omega arith)
]

pub below_parted : (zones : List Mapped) (from : ℕ) → IsRising zones → IsPartitionedBy (λ (m : Mapped). nat_lt m.index from) zones
below_parted zones from h i j d le lt t =
    let up = rises zones (rising_ascending zones h) i j d le lt in
    let low = ltb-true _ _ t in
    lt-ltb _ _ (omega arith)

pub cut_parted : (zones : List Mapped) (from at : ℕ) → at ≤ length zones → IsPartitionPoint (λ (m : Mapped). nat_lt m.index from ≡ true) (λ (m : Mapped). nat_lt m.index from ≡ false) zones at →
    take at zones ≡ filter (λ m. nat_lt m.index from) zones
cut_parted zones from at within h = cut_at zones from at within
    (λ k m e lt. subst (λ (m : Mapped). nat_lt m.index from ≡ true) (read k m e) (h.0 k m (omega arith) lt))
    (λ k m e le. subst (λ (m : Mapped). nat_lt m.index from ≡ false) (read k m e) (h.1 k m le (slice_get-length zones k m e)))
  where
    read : (k : ℕ) (m : Mapped) → slice_get zones k ≡ Some m → get_or zones k m ≡ m
    read k m e = same_Some (get_or zones k m) m (sym (slice_get-get_or zones k m (slice_get-length zones k m e)) ∙ e)

-- ---- what the calls leave

pub rising_none : IsRising []
unfolding IsStrictlySortedBy
rising_none = tt

pub rising_same : (zones next : List Mapped) → zones ≡ next → IsRising next → IsRising zones
rising_same zones next e h = subst IsRising (sym e) h

hole_longer : (zones : List Mapped) (index : ℕ) → length (with_hole zones index) ≤ length zones + 1
hole_longer zones index = elim (cases_Bool (has_index zones index)) [
  | inl y ↦ rw y (omega arith)
  | inr n ↦ rw n (longer zones)
]
  where
    longer : (zones : List Mapped) → length (with_mapped zones index 0) ≤ length zones + 1
    longer [] = omega arith
    longer (m ∷ zones) = elim (cases_Bool (nat_lt index m.index)) [ inl y ↦ rw y (omega arith) | inr n ↦ rw n (let more = longer zones in omega arith) ]

pub rising_holes : (indices : List ℕ) (zones : List Mapped) → IsRising zones → IsRising (with_holes zones indices)
rising_holes [] zones h = h
rising_holes (i ∷ is) zones h = rising_holes is (with_hole zones i) (rising_hole zones i h)

-- one turn of the loop that puts holes in
pub hole_turn : (zones next all : List Mapped) (index end room more : ℕ) → index < end → IsRising zones → length zones + (end - index) ≤ room → room ≤ more → with_holes zones (range_with_len index (end - index)) ≡ all → next ≡ with_hole zones index →
    IsRising next × (length next + (end - (index + 1)) ≤ more) × (with_holes next (range_with_len (index + 1) (end - (index + 1))) ≡ all)
hole_turn zones next all index end room more low h fits grows e is =
    let one = hole_longer zones index in
    let same : length next ≡ length (with_hole zones index) = ap length is in
    let left : suc (end - (index + 1)) ≡ end - index = omega arith in (
      rising_same next (with_hole zones index) is (rising_hole zones index h),
      omega arith,
      ap (λ (ms : List Mapped). with_holes ms (range_with_len (index + 1) (end - (index + 1)))) is ∙ (ap (λ k. with_holes zones (range_with_len index k)) left ∙ e),
    )
