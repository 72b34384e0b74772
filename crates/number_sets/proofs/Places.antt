-- Places in lists that stand in rising order.
use Rattle.std.proofs.Common.{◌≡◌, ℕ, zero, suc, ◌<◌, ◌≤◌, ◌==◌, Bool, true, false, not, nat_lt, if◌then◌else◌, List, [], ◌∷◌, length, get_or, Some, Result, Ok, Err, refl, sym, ap, subst, ◌∙◌, inl, inr, ⊎_elim, arith, eqb-true, eq-eqb}
use Rattle.std.specs.List.{slice_get, insert, filter}
use Rattle.std.specs.List.Sorted.{IsBinarySearchResult}
use Rattle.std.specs.Ordering.{nat_cmp}
use Rattle.std.specs.Prelude.{MatchResult}
use Rattle.std.proofs.lemmas.Bool.{cases_Bool, false≢true, ne_eqb, lt-ltb, le-ltb}
use Rattle.std.proofs.lemmas.Option.{slice_get-get_or}
use Rattle.std.proofs.lemmas.List.Sorted.{searched}
use Rattle.blk_base.specs.Members.{In}
use Rattle.blk_base.specs.laws.Members.{filter_all, remove-ascending, slice_get-In}
use Rattle.number_sets.specs.Sets.{IsRising, has, with, without_all}
use Rattle.number_sets.specs.code.Places.{StandsAt, BelongsAt, IsPlaceOf}
use Rattle.number_sets.specs.laws.Members.{In-has, has-In}

-- adding a number that is there changes nothing
known : (xs : List ℕ) (x : ℕ) → IsRising xs → In x xs → with xs x ≡ xs
known [] x r i = absurd i
known (y ∷ ys) x r (inl e) = rw (eq-eqb y x e) refl
known (y ∷ ys) x r (inr i) =
    let less = r.0 x i in
    let ne : (y == x) ≡ false = ne_eqb y x (λ q. omega (arith, less, q)) in
    let no : nat_lt x y ≡ false = le-ltb x y (omega (arith, less)) in
    rw ne (rw no (ap (λ zs. y ∷ zs) (known ys x r.1 i)))

-- taking one number away, by its own test
alone : (x : ℕ) (xs : List ℕ) → without_all xs (x ∷ []) ≡ filter (λ y. not (y == x)) xs
alone x [] = refl
alone x (y ∷ ys) = by (alone x ys) (x == y) refl (y == x) refl
  where
    by : without_all ys (x ∷ []) ≡ filter (λ y. not (y == x)) ys → (s : Bool) → (x == y) ≡ s → (t : Bool) → (y == x) ≡ t → without_all (y ∷ ys) (x ∷ []) ≡ (if not t then y ∷ filter (λ y. not (y == x)) ys else filter (λ y. not (y == x)) ys)
    by rest true e true d = rw e rest
    by rest false e false d = rw e (ap (λ zs. y ∷ zs) rest)
    by rest true e false d = absurd (false≢true (sym d ∙ eq-eqb y x (sym (eqb-true x y e))))
    by rest false e true d = absurd (false≢true (sym e ∙ eq-eqb x y (sym (eqb-true y x d))))

pub stands_at : (xs : List ℕ) (x at : ℕ) → IsRising xs → at < length xs → get_or xs at 0 ≡ x → StandsAt xs x at
stands_at xs x at r inside here =
    let there : slice_get xs at ≡ Some x = slice_get-get_or xs at 0 inside ∙ ap Some here in
    let i = slice_get-In xs at x there in
    record { within = inside; has = In-has xs x i; added = known xs x r i; taken = alone x xs ∙ sym (remove-ascending (λ n. n) xs at x r there) }

-- all before the place are lower, and all from it on are higher
record Parts (xs : List ℕ) (x at : ℕ) : Type 0 where
  lower : (k : ℕ) → k < at → get_or xs k 0 < x
  higher : (k : ℕ) → at ≤ k → k < length xs → x < get_or xs k 0

added_at : (xs : List ℕ) (x at : ℕ) → at ≤ length xs → Parts xs x at → with xs x ≡ insert xs at x
added_at [] x at within p = let none : at ≡ 0 = omega (arith, within) in rw none refl
added_at (y ∷ ys) x zero within p =
    let high = p.higher 0 (omega arith) (omega arith) in
    let ne : (y == x) ≡ false = ne_eqb y x (λ q. omega (arith, high, q)) in
    let yes : nat_lt x y ≡ true = lt-ltb x y high in
    rw ne (rw yes refl)
added_at (y ∷ ys) x (suc at) within p =
    let low = p.lower 0 (omega arith) in
    let ne : (y == x) ≡ false = ne_eqb y x (λ q. omega (arith, low, q)) in
    let no : nat_lt x y ≡ false = le-ltb x y (omega (arith, low)) in
    rw ne (rw no (ap (λ zs. y ∷ zs) (added_at ys x at (omega (arith, within)) (record { lower = λ k lt. p.lower (suc k) (omega (arith, lt)); higher = λ k le lt. p.higher (suc k) (omega (arith, le)) (omega (arith, lt)) }))))

absent : (xs : List ℕ) (x at : ℕ) → Parts xs x at → In x xs → ⊥
absent [] x at p i = i
absent (y ∷ ys) x zero p (inl e) = let high = p.higher 0 (omega arith) (omega arith) in omega (arith, high, e)
absent (y ∷ ys) x (suc at) p (inl e) = let low = p.lower 0 (omega arith) in omega (arith, low, e)
absent (y ∷ ys) x zero p (inr i) = absent ys x zero (record { lower = λ k lt. absurd (omega (arith, lt)); higher = λ k le lt. p.higher (suc k) (omega (arith, le)) (omega (arith, lt)) }) i
absent (y ∷ ys) x (suc at) p (inr i) = absent ys x at (record { lower = λ k lt. p.lower (suc k) (omega (arith, lt)); higher = λ k le lt. p.higher (suc k) (omega (arith, le)) (omega (arith, lt)) }) i

belongs_at : (xs : List ℕ) (x at : ℕ) → at ≤ length xs → Parts xs x at → BelongsAt xs x at
belongs_at xs x at inside p =
    let none : In x xs → ⊥ = absent xs x at p in
    record {
      within = inside;
      none = ⊎_elim (λ t. absurd (none (has-In xs x t))) (λ f. f) (cases_Bool (has xs x));
      added = added_at xs x at inside p;
      taken = alone x xs ∙ filter_all (λ y. not (y == x)) xs (λ y i. ap not (ne_eqb y x (λ q. none (subst (λ z. In z xs) q i))));
    }

-- the elements of a rising list, by place
rises : (xs : List ℕ) → IsRising xs → (i j : ℕ) → i ≤ j → j < length xs → get_or xs i 0 ≤ get_or xs j 0
rises [] r i j le lt = absurd (omega (arith, lt))
rises (x ∷ xs) r zero zero le lt = omega arith
rises (x ∷ xs) r zero (suc j) le lt =
    let inside : j < length xs = omega (arith, lt) in
    let less = r.0 (get_or xs j 0) (slice_get-In xs j (get_or xs j 0) (slice_get-get_or xs j 0 inside)) in
    omega (arith, less)
rises (x ∷ xs) r (suc i) zero le lt = absurd (omega (arith, le))
rises (x ∷ xs) r (suc i) (suc j) le lt = rises xs r.1 i j (omega (arith, le)) (omega (arith, lt))

-- what a binary search answers
pub found_place : (xs : List ℕ) (x : ℕ) (r : Result ℕ ℕ) → IsRising xs → IsBinarySearchResult (λ y. nat_cmp y x) xs r → IsPlaceOf xs x r
found_place xs x r rising s = by r (searched xs x r s (rises xs rising))
  where
    by : (r : Result ℕ ℕ) → MatchResult r (λ i. (i < length xs) × (get_or xs i 0 ≡ x)) (λ i. (i ≤ length xs) × ((k : ℕ) → k < i → get_or xs k 0 < x) × ((k : ℕ) → i ≤ k → k < length xs → x < get_or xs k 0)) → IsPlaceOf xs x r
    by (Ok i) m = stands_at xs x i rising m.0 m.1
    by (Err i) m = belongs_at xs x i m.0 (record { lower = m.1; higher = m.2 })
