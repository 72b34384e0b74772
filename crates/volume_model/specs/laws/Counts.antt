-- What a block more takes, and what a cut frees.
use Rattle.std.specs.Prelude.{◌≡◌, ◌≢◌, ℕ, zero, suc, ◌+◌, ◌-◌, ◌/◌, ◌<◌, ◌≤◌, ◌==◌, nat_lt, nat_le, nat_eq, Bool, true, false, not, cond, ◌&&◌, ◌||◌, if◌then◌else◌, List, [], ◌∷◌, length, map, filter, refl}
use Rattle.std.specs.List.{count_by, range_with_len}
use Rattle.std.proofs.Common.{sym, ap, subst, ◌∙◌, inl, inr, arith}
use Rattle.std.proofs.lemmas.Bool.{cases_Bool, cases_eq, eqb-true, eqb-false, eq-eqb, ne_eqb, lt-ltb, le-ltb, ltb-true, le-leb, lt-leb, leb-true, and_from, and_parts, true≢false}
use Rattle.std.proofs.lemmas.List.Sums.{sum_by-cons}
use Rattle.std.proofs.lemmas.List.Filters.{length-filter_both}
use Rattle.blk_base.specs.Members.{In}
use Rattle.blk_base.specs.laws.Members.{In-filter, filter-In, In-list_any, list_any-In}
use Rattle.volume_model.specs.Volume.{Place, block, indirect, double, inner, IsOfNumbers, at_indirect, at_double, at_inner}
use Rattle.volume_model.specs.laws.Ways.{direct, single, twice, past, range}
use Rattle.volume_model.specs.Ways.{way, OnWay, IsJust}
use Rattle.volume_model.specs.laws.OnWay.{way-direct, way-single, way-twice}
use Rattle.volume_model.specs.Cut.{IsKeep}
use Rattle.volume_model.specs.Counts.{keeps_below, number_places, passes, uses, zones_of_file}

-- the indices are those of the mapped blocks
pub record IsIndexed (own : Place → ℕ) (indices : List ℕ) : Type 0 where
  pub mapped : (i : ℕ) → In i indices → own (block i) ≢ 0
  pub full : (i : ℕ) → own (block i) ≢ 0 → In i indices
  pub low : (i : ℕ) → own (block i) ≢ 0 → i < 262663
  pub just : IsJust own
  pub behind : (x : Place) (i : ℕ) → OnWay x i → own (block i) ≢ 0 → own x ≢ 0

passes_on : (x : Place) (i : ℕ) → IsOfNumbers x → i < 262663 → passes x i ≡ true → OnWay x i
passes_on indirect i n low t = let p = and_parts _ _ t in (leb-true _ _ p.0, ltb-true _ _ p.1)
passes_on double i n low t = (leb-true _ _ t, low)
passes_on (inner g) i n low t = let p = and_parts _ _ t in (leb-true _ _ p.0, low, eqb-true _ _ p.1)
passes_on (block j) i n low t = elim n [ ]

on_passes : (x : Place) (i : ℕ) → OnWay x i → passes x i ≡ true
on_passes (block j) i on = eq-eqb i j (sym on.0)
on_passes indirect i on = and_from _ _ (le-leb 7 i on.0) (lt-ltb i 519 on.1)
on_passes double i on = le-leb 519 i on.0
on_passes (inner g) i on = and_from _ _ (le-leb 519 i on.0) (eq-eqb ((i - 519) / 512) g on.2)

-- ---- counting

count_same : (p q : ℕ → Bool) → ((g : ℕ) → p g ≡ q g) → (xs : List ℕ) → count_by p xs ≡ count_by q xs
count_same p q same xs = ap (λ (f : ℕ → Bool). count_by f xs) (λ k. λ x. same x k)

abbrev pub bit : Bool → ℕ
bit b = if b then 1 else 0

count_cons : (p : ℕ → Bool) (x : ℕ) (xs : List ℕ) → count_by p (x ∷ xs) ≡ bit (p x) + count_by p xs
count_cons p x xs = sum_by-cons (λ x. cond (p x) 1 0) x xs

count_away : (p q : ℕ → Bool) (j a n : ℕ) → ((g : ℕ) → g ≢ j → q g ≡ p g) → j < a → count_by q (range_with_len a n) ≡ count_by p (range_with_len a n)
count_away p q j a zero same low = refl
count_away p q j a (suc n) same low =
    count_cons q a (range_with_len (a + 1) n)
    ∙ (ap (λ b. (if b then 1 else 0) + count_by q (range_with_len (a + 1) n)) (same a (λ e. (omega arith)))
    ∙ (ap (λ m. (if p a then 1 else 0) + m) (count_away p q j (a + 1) n same (omega arith)) ∙ sym (count_cons p a (range_with_len (a + 1) n))))

count_one : (p q : ℕ → Bool) (j a n : ℕ) → ((g : ℕ) → g ≢ j → q g ≡ p g) → q j ≡ true → p j ≡ false → a ≤ j → j < a + n → count_by q (range_with_len a n) ≡ suc (count_by p (range_with_len a n))
count_one p q j a zero same new old low high = absurd (omega arith)
count_one p q j a (suc n) same new old low high =
    let one = count_cons q a (range_with_len (a + 1) n) in
    let two = count_cons p a (range_with_len (a + 1) n) in
    elim (cases_eq a j) [
      | inl e ↦
          let here : bit (q a) ≡ 1 = ap bit (ap q e ∙ new) in
          let was : bit (p a) ≡ 0 = ap bit (ap p e ∙ old) in
          let rest = count_away p q j (a + 1) n same (omega arith) in
          omega arith
      | inr apart ↦
          let rest = count_one p q j (a + 1) n same new old (omega arith) (omega arith) in
          let here : bit (q a) ≡ bit (p a) = ap bit (same a apart) in
          omega arith
    ]

-- those that p counts are those that q counts and those that are gone
count_gone : (p q : ℕ → Bool) → ((g : ℕ) → q g ≡ true → p g ≡ true) → (xs : List ℕ) → count_by p xs ≡ count_by q xs + count_by (λ g. p g && not (q g)) xs
count_gone p q less [] = refl
count_gone p q less (x ∷ xs) =
    let rest = count_gone p q less xs in
    let one = count_cons p x xs in
    let two = count_cons q x xs in
    let three = count_cons (λ g. p g && not (q g)) x xs in
    let here = by (p x) (q x) (less x) in
    omega arith
  where
    by : (a b : Bool) → (b ≡ true → a ≡ true) → (if a then 1 else 0) ≡ (if b then 1 else 0) + (if a && not b then 1 else 0)
    by true true f = refl
    by true false f = refl
    by false true f = absurd (true≢false (sym (f refl)))
    by false false f = refl

count_map_inner : (p : Place → Bool) (xs : List ℕ) → length (filter p (map inner xs)) ≡ count_by (λ g. p (inner g)) xs
count_map_inner p [] = refl
count_map_inner p (x ∷ xs) = elim (cases_Bool (p (inner x))) [
  | inl t ↦
      let one = count_cons (λ g. p (inner g)) x xs in
      let here : bit (p (inner x)) ≡ 1 = ap bit t in
      let rest = count_map_inner p xs in
      let more : length (filter p (map inner (x ∷ xs))) ≡ suc (length (filter p (map inner xs))) = rw t refl in
      omega arith
  | inr f ↦
      let one = count_cons (λ g. p (inner g)) x xs in
      let here : bit (p (inner x)) ≡ 0 = ap bit f in
      let rest = count_map_inner p xs in
      let more : length (filter p (map inner (x ∷ xs))) ≡ length (filter p (map inner xs)) = rw f refl in
      omega arith
]

-- the places of zones of numbers that pass a test
number_count : (p : Place → Bool) → length (filter p number_places) ≡ bit (p indirect) + bit (p double) + count_by (λ g. p (inner g)) (range_with_len 0 512)
number_count p = by (p indirect) (p double) refl refl
  where
    rest : length (filter p (map inner (range_with_len 0 512))) ≡ count_by (λ g. p (inner g)) (range_with_len 0 512)
    rest = count_map_inner p (range_with_len 0 512)

    plus_two : (m k : ℕ) → m ≡ k → suc (suc m) ≡ 1 + 1 + k
    plus_two m k e = omega arith

    plus_one : (m k : ℕ) → m ≡ k → suc m ≡ 1 + 0 + k
    plus_one m k e = omega arith

    also_one : (m k : ℕ) → m ≡ k → suc m ≡ 0 + 1 + k
    also_one m k e = omega arith

    plus_none : (m k : ℕ) → m ≡ k → m ≡ 0 + 0 + k
    plus_none m k e = omega arith

    by : (a b : Bool) → p indirect ≡ a → p double ≡ b → length (filter p (indirect ∷ double ∷ map inner (range_with_len 0 512))) ≡ bit a + bit b + count_by (λ g. p (inner g)) (range_with_len 0 512)
    by true true e f = rw (e, f) (plus_two _ _ rest)
    by true false e f = rw (e, f) (plus_one _ _ rest)
    by false true e f = rw (e, f) (also_one _ _ rest)
    by false false e f = rw (e, f) (plus_none _ _ rest)

-- the zones of a file as a sum over the kinds of places
pub zones_sum : (indices : List ℕ) → zones_of_file indices ≡ length indices + bit (uses indices indirect) + bit (uses indices double) + count_by (λ g. uses indices (inner g)) (range_with_len 0 512)
zones_sum indices = four (length indices) _ _ _ _ (number_count (uses indices))
  where
    four : (l u v c k : ℕ) → k ≡ u + v + c → l + k ≡ l + u + v + c
    four l u v c k e = omega arith

add_none : (a b c : ℕ) → a ≡ b → c ≡ 0 → a ≡ b + c
add_none a b c e z = omega arith

sums : (l u v c p q d x y z k : ℕ) → p ≡ u + x → q ≡ v + y → d ≡ c + z → k ≡ 1 + x + y + z → suc l + p + q + d ≡ (l + u + v + c) + k
sums l u v c p q d x y z k e f g h = omega arith

add_one : (a b c : ℕ) → a ≡ suc b → c ≡ 1 → a ≡ b + c
add_one a b c e z = omega arith

module _ (own : Place → ℕ) (indices : List ℕ) (is : IsIndexed own indices) where
  own_uses : (x : Place) → IsOfNumbers x → own x ≢ 0 → uses indices x ≡ true
  own_uses x n some = let w = is.just x some in list_any-In (passes x) indices w.0 (is.full w.0 w.1) (on_passes x w.0 w.2)

  uses_own : (x : Place) → IsOfNumbers x → uses indices x ≡ true → own x ≢ 0
  uses_own x n t =
      let w = In-list_any (passes x) indices t in
      let some = is.mapped w.0 w.1 in
      is.behind x w.0 (passes_on x w.0 n (is.low w.0 some) w.2) some

  abbrev pub hole : Place → Bool
  hole x = nat_eq (own x) 0

  -- a place is used or a hole
  pub used_or_hole : (x : Place) → IsOfNumbers x → hole x ≡ not (uses indices x)
  used_or_hole x n = elim (cases_Bool (uses indices x)) [
    | inl t ↦ ne_eqb (own x) 0 (uses_own x n t) ∙ ap not (sym t)
    | inr f ↦ elim (cases_Bool (hole x)) [
      | inl z ↦ z ∙ ap not (sym f)
      | inr m ↦ absurd (true≢false (sym (own_uses x n (eqb-false _ _ m)) ∙ f))
    ]
  ]

  place_more : (x : Place) (index : ℕ) → IsOfNumbers x → bit (passes x index || uses indices x) ≡ bit (uses indices x) + bit (passes x index && hole x)
  place_more x index n = subst (λ c. bit (passes x index || uses indices x) ≡ bit (uses indices x) + bit (passes x index && c)) (sym (used_or_hole x n)) (by (passes x index) (uses indices x))
    where
      by : (a b : Bool) → bit (a || b) ≡ bit b + bit (a && not b)
      by true true = refl
      by true false = refl
      by false true = refl
      by false false = refl

  groups_more : (index : ℕ) → index < 262663 →
      count_by (λ g. passes (inner g) index || uses indices (inner g)) (range_with_len 0 512)
      ≡ count_by (λ g. uses indices (inner g)) (range_with_len 0 512) + bit (nat_le 519 index && hole (inner ((index - 519) / 512)))
  groups_more index high =
      elim (cases_Bool (nat_le 519 index)) [
        | inr f ↦
            let same = count_same (λ g. passes (inner g) index || uses indices (inner g)) (λ g. uses indices (inner g)) (λ g. (let e : (passes (inner g) index || uses indices (inner g)) ≡ uses indices (inner g) = rw f refl in e)) (range_with_len 0 512) in
            let none : bit (nat_le 519 index && hole (inner ((index - 519) / 512))) ≡ 0 = rw f refl in
            add_none _ _ _ same none
        | inl t ↦
            let j = (index - 519) / 512 in
            let q = λ (g : ℕ). passes (inner g) index || uses indices (inner g) in
            let p = λ (g : ℕ). uses indices (inner g) in
            let other : (g : ℕ) → g ≢ j → q g ≡ p g = λ g a. (let no_group : ((index - 519) / 512 == g) ≡ false = ne_eqb _ _ (λ e. a (sym e)) in rw (t, no_group) refl) in
            let low = leb-true _ _ t in
            elim (cases_Bool (uses indices (inner j))) [
              | inr f ↦
                  let here : q j ≡ true = (let group : ((index - 519) / 512 == j) ≡ true = eq-eqb j j refl in rw (t, group) refl) in
                  let one = count_one p q j 0 512 other here f (omega arith) (omega arith) in
                  let is_hole : hole (inner j) ≡ true = used_or_hole (inner j) at_inner ∙ ap not f in
                  let more : bit (nat_le 519 index && hole (inner ((index - 519) / 512))) ≡ 1 = ap bit (ap (λ b. b && hole (inner j)) t ∙ is_hole) in
                  add_one _ _ _ one more
              | inl u ↦
                  let all : (g : ℕ) → q g ≡ p g = λ g. elim (cases_eq g j) [
                    | inl e ↦ ap q e ∙ (or_true (passes (inner j) index) (uses indices (inner j)) u ∙ sym (ap p e ∙ u))
                    | inr a ↦ other g a
                  ] in
                  let same = count_same q p all (range_with_len 0 512) in
                  let is_hole : hole (inner j) ≡ false = used_or_hole (inner j) at_inner ∙ ap not u in
                  let none : bit (nat_le 519 index && hole (inner ((index - 519) / 512))) ≡ 0 = ap bit (ap (λ b. b && hole (inner j)) t ∙ is_hole) in
                  add_none _ _ _ same none
            ]
      ]
    where
      or_true : (a b : Bool) → b ≡ true → (a || b) ≡ true
      or_true true b t = refl
      or_true false b t = t

  -- A block more takes as many zones as there are holes on the way to it.
  pub count_map : (index : ℕ) → index < 262663 → own (block index) ≡ 0 → zones_of_file (index ∷ indices) ≡ zones_of_file indices + length (filter hole (way index))
  count_map index high none =
      let a = place_more indirect index at_indirect in
      let b = place_more double index at_double in
      let c = groups_more index high in
      let here : hole (block index) ≡ true = eq-eqb (own (block index)) 0 none in
      let d = holes here in
      zones_sum (index ∷ indices)
      ∙ sums (length indices) (bit (uses indices indirect)) (bit (uses indices double)) (count_by (λ g. uses indices (inner g)) (range_with_len 0 512)) _ _ _ _ _ _ _ a b c d
      ∙ ap (λ n. n + length (filter hole (way index))) (sym (zones_sum indices))
    where
      holes : hole (block index) ≡ true → length (filter hole (way index)) ≡ 1 + bit (passes indirect index && hole indirect) + bit (passes double index && hole double) + bit (nat_le 519 index && hole (inner ((index - 519) / 512)))
      holes here =
          elim (range index) [
            | direct low ↦ ap (λ xs. length (filter hole xs)) (way-direct index low) ∙ rw (here, lt-leb 7 index low, lt-leb 519 index (omega arith)) refl
            | single low up ↦ ap (λ xs. length (filter hole xs)) (way-single index low up) ∙ rw (here, le-leb 7 index low, lt-ltb index 519 up, lt-leb 519 index (omega arith)) (one (hole indirect) here)
            | twice low up ↦ ap (λ xs. length (filter hole xs)) (way-twice index low up) ∙ rw (here, le-leb 519 index low, le-leb 7 index (omega arith), le-ltb index 519 low) (two (hole double) (hole (inner ((index - 519) / 512))) here)
            | past low ↦ absurd (omega arith)
          ]
        where
          one : (x : Bool) → hole (block index) ≡ true → length (if x then indirect ∷ block index ∷ [] else block index ∷ []) ≡ 1 + bit (true && x) + 0 + 0
          one true h = refl
          one false h = refl

          two : (x y : Bool) → hole (block index) ≡ true → length (if x then double ∷ (if y then inner ((index - 519) / 512) ∷ block index ∷ [] else block index ∷ []) else (if y then inner ((index - 519) / 512) ∷ block index ∷ [] else block index ∷ [])) ≡ 1 + 0 + bit x + bit y
          two true true h = refl
          two true false h = refl
          two false true h = refl
          two false false h = refl

  -- ---- a cut

  abbrev pub fewer : ℕ → List ℕ
  fewer from = filter (λ i. nat_lt i from) indices

  uses_fewer : (from : ℕ) (x : Place) → uses (fewer from) x ≡ true → uses indices x ≡ true
  uses_fewer from x t =
      let w = In-list_any (passes x) (fewer from) t in
      list_any-In (passes x) indices w.0 (In-filter (λ i. nat_lt i from) indices w.0 w.1).0 w.2

  fewer_kept : (from : ℕ) (x : Place) → IsOfNumbers x → uses (fewer from) x ≡ true → (i : ℕ) × (i < from) × (own (block i) ≢ 0) × OnWay x i
  fewer_kept from x n t =
      let w = In-list_any (passes x) (fewer from) t in
      let old = In-filter (λ i. nat_lt i from) indices w.0 w.1 in
      let some = is.mapped w.0 old.0 in
      (w.0, ltb-true _ _ old.1, some, passes_on x w.0 n (is.low w.0 some) w.2)

  fewer_held : (from : ℕ) (x : Place) (i : ℕ) → i < from → own (block i) ≢ 0 → OnWay x i → uses (fewer from) x ≡ true
  fewer_held from x i low some on = list_any-In (passes x) (fewer from) i (filter-In (λ i. nat_lt i from) indices i (is.full i some) (lt-ltb i from low)) (on_passes x i on)

  -- Which places stay can be read off the mapped indices.
  pub keep_below : (from : ℕ) → IsKeep own from (keeps_below indices from)
  keep_below from = record {
    blocks = λ i. refl;
    kept = λ x n t. elim x as (λ x. IsOfNumbers x → keeps_below indices from x ≡ true → (i : ℕ) × (i < from) × (own (block i) ≢ 0) × OnWay x i) [
      | block i ↦ λ n t. elim n [ ]
      | indirect ↦ λ n t. fewer_kept from indirect n t
      | double ↦ λ n t. fewer_kept from double n t
      | inner g ↦ λ n t. fewer_kept from (inner g) n t
    ] n t;
    held = λ x i low some on. elim x as (λ x. OnWay x i → keeps_below indices from x ≡ true) [
      | block j ↦ λ on. (let e = on.0 in lt-ltb j from (omega arith))
      | indirect ↦ λ on. fewer_held from indirect i low some on
      | double ↦ λ on. fewer_held from double i low some on
      | inner g ↦ λ on. fewer_held from (inner g) i low some on
    ] on;
  }

  -- the zones of numbers that go
  abbrev pub gone_numbers : ℕ → List Place
  gone_numbers from = filter (λ x. uses indices x && not (uses (fewer from) x)) number_places

  abbrev pub gone_blocks : ℕ → List ℕ
  gone_blocks from = filter (λ i. not (nat_lt i from)) indices

  place_less : (from : ℕ) (x : Place) → bit (uses indices x) ≡ bit (uses (fewer from) x) + bit (uses indices x && not (uses (fewer from) x))
  place_less from x = by (uses indices x) (uses (fewer from) x) (uses_fewer from x)
    where
      by : (a b : Bool) → (b ≡ true → a ≡ true) → bit a ≡ bit b + bit (a && not b)
      by true true f = refl
      by true false f = refl
      by false true f = absurd (true≢false (sym (f refl)))
      by false false f = refl

  gone_length : (from : ℕ) → length (gone_numbers from) ≡ bit (uses indices indirect && not (uses (fewer from) indirect)) + bit (uses indices double && not (uses (fewer from) double)) + count_by (λ g. uses indices (inner g) && not (uses (fewer from) (inner g))) (range_with_len 0 512)
  gone_length from = number_count (λ x. uses indices x && not (uses (fewer from) x))

  -- A cut frees the zones of the blocks that go and of the zones of numbers that go.
  pub count_cut : (from : ℕ) → zones_of_file indices ≡ zones_of_file (fewer from) + (length (gone_blocks from) + length (gone_numbers from))
  count_cut from =
      zones_sum indices
      ∙ cut_sums (length indices) (length (fewer from)) (length (gone_blocks from))
      (bit (uses indices indirect)) (bit (uses indices double)) (count_by (λ g. uses indices (inner g)) (range_with_len 0 512))
      (bit (uses (fewer from) indirect)) (bit (uses (fewer from) double)) (count_by (λ g. uses (fewer from) (inner g)) (range_with_len 0 512)) _ _ _ _
      (length-filter_both (λ i. nat_lt i from) (λ i. not (nat_lt i from)) (λ i. refl) indices)
      (place_less from indirect) (place_less from double)
      (count_gone (λ g. uses indices (inner g)) (λ g. uses (fewer from) (inner g)) (λ g. uses_fewer from (inner g)) (range_with_len 0 512))
      (gone_length from)
      ∙ ap (λ n. n + (length (gone_blocks from) + length (gone_numbers from))) (sym (zones_sum (fewer from)))
    where
      cut_sums : (l m d u v c u' v' c' x y z k : ℕ) → m + d ≡ l → u ≡ u' + x → v ≡ v' + y → c ≡ c' + z → k ≡ x + y + z → l + u + v + c ≡ (m + u' + v' + c') + (d + k)
      cut_sums l m d u v c u' v' c' x y z k e f g h i = omega arith
