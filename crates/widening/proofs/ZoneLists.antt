-- Lists of zones: which are in them, and that none stands in them twice.
use Rattle.std.specs.Prelude.{◌≡◌, ◌≢◌, ℕ, zero, suc, ◌+◌, ◌<◌, ◌≤◌, ◌==◌, Bool, not, List, [], ◌∷◌, ◌++◌, map, filter, length, take, drop, slice_index, refl}
use Rattle.std.specs.List.{concat, range_with_len}
use Rattle.std.proofs.Common.{sym, ap, subst, ◌∙◌, inl, inr, ⊎_elim, arith}
use Rattle.std.proofs.lemmas.Bool.{cases_eq, cases_Bool, eq-eqb, ne_eqb}
use Rattle.blk_base.specs.Members.{In}
use Rattle.blk_base.specs.laws.Members.{In-append_cases, In-filter, In-take}

-- ---- places

pub index_in : (xs : List ℕ) (k : ℕ) → k < length xs → In (slice_index xs k) xs
index_in [] k low = absurd (omega (arith, low))
index_in (x ∷ xs) zero low = inl refl
index_in (x ∷ xs) (suc k) low = inr (index_in xs k (omega (arith, low)))

pub index_past : (xs : List ℕ) (k : ℕ) → length xs ≤ k → slice_index xs k ≡ 0
index_past [] k past = refl
index_past (x ∷ xs) zero past = absurd (omega (arith, past))
index_past (x ∷ xs) (suc k) past = index_past xs k (omega (arith, past))

pub in_index : (xs : List ℕ) (z : ℕ) → In z xs → (k : ℕ) × (k < length xs) × (slice_index xs k ≡ z)
in_index [] z i = absurd i
in_index (x ∷ xs) z (inl same) = (0, omega arith, same)
in_index (x ∷ xs) z (inr i) = let at = in_index xs z i in (suc at.0, (let low = at.1 in omega (arith, low)), at.2)

pub index_take : (n : ℕ) (xs : List ℕ) (k : ℕ) → k < n → slice_index (take n xs) k ≡ slice_index xs k
index_take zero xs k low = absurd (omega (arith, low))
index_take (suc n) [] k low = refl
index_take (suc n) (x ∷ xs) zero low = refl
index_take (suc n) (x ∷ xs) (suc k) low = index_take n xs k (omega (arith, low))

pub index_drop : (n : ℕ) (xs : List ℕ) (k : ℕ) → slice_index (drop n xs) k ≡ slice_index xs (n + k)
index_drop zero xs k = let e : k ≡ 0 + k = omega arith in ap (slice_index xs) e
index_drop (suc n) [] k = sym (index_past [] (suc n + k) (omega arith))
index_drop (suc n) (x ∷ xs) k = let e : suc (n + k) ≡ suc n + k = omega arith in index_drop n xs k ∙ ap (slice_index (x ∷ xs)) e

pub In-drop : (n : ℕ) (xs : List ℕ) (z : ℕ) → In z (drop n xs) → In z xs
In-drop zero xs z i = i
In-drop (suc n) [] z i = absurd i
In-drop (suc n) (x ∷ xs) z i = inr (In-drop n xs z i)

pub In-concat : (f : ℕ → List ℕ) (xs : List ℕ) (z : ℕ) → In z (concat (map f xs)) → (x : ℕ) × In x xs × In z (f x)
In-concat f [] z i = absurd i
In-concat f (x ∷ xs) z i =
    ⊎_elim
    (λ here. (x, inl refl, here))
    (λ later. let y = In-concat f xs z later in (y.0, inr y.1, y.2))
    (In-append_cases (f x) (concat (map f xs)) z i)

-- ---- no zone stands twice

abbrev pub AreApart : List ℕ → Type 0
AreApart [] = Unit {0}
AreApart (z ∷ zs) = (In z zs → ⊥) × AreApart zs

pub apart_append : (xs ys : List ℕ) → AreApart xs → AreApart ys → ((z : ℕ) → In z xs → In z ys → ⊥) → AreApart (xs ++ ys)
apart_append [] ys a b none = b
apart_append (x ∷ xs) ys a b none = (
  λ i. ⊎_elim (λ j. a.0 j) (λ j. none x (inl refl) j) (In-append_cases xs ys x i),
  apart_append xs ys a.1 b (λ z i j. none z (inr i) j),
)

pub apart_take : (n : ℕ) (xs : List ℕ) → AreApart xs → AreApart (take n xs)
apart_take zero xs a = tt
apart_take (suc n) [] a = tt
apart_take (suc n) (x ∷ xs) a = (λ i. a.0 (In-take n xs x i), apart_take n xs a.1)

pub apart_drop : (n : ℕ) (xs : List ℕ) → AreApart xs → AreApart (drop n xs)
apart_drop zero xs a = a
apart_drop (suc n) [] a = tt
apart_drop (suc n) (x ∷ xs) a = apart_drop n xs a.1

-- what is taken is not left
pub taken_or_left : (n : ℕ) (xs : List ℕ) (z : ℕ) → AreApart xs → In z (take n xs) → In z (drop n xs) → ⊥
taken_or_left zero xs z a i j = i
taken_or_left (suc n) [] z a i j = i
taken_or_left (suc n) (x ∷ xs) z a (inl same) j = a.0 (subst (λ y. In y xs) (sym same) (In-drop n xs z j))
taken_or_left (suc n) (x ∷ xs) z a (inr i) j = taken_or_left n xs z a.1 i j

-- two places that have one zone are one
pub one_index : (xs : List ℕ) (j k : ℕ) → AreApart xs → j < length xs → k < length xs → slice_index xs j ≡ slice_index xs k → j ≡ k
one_index [] j k a low more same = absurd (omega (arith, low))
one_index (x ∷ xs) zero zero a low more same = refl
one_index (x ∷ xs) zero (suc k) a low more same = absurd (a.0 (subst (λ y. In y xs) (sym same) (index_in xs k (omega (arith, more)))))
one_index (x ∷ xs) (suc j) zero a low more same = absurd (a.0 (subst (λ y. In y xs) same (index_in xs j (omega (arith, low)))))
one_index (x ∷ xs) (suc j) (suc k) a low more same = ap suc (one_index xs j k a.1 (omega (arith, low)) (omega (arith, more)) same)

pub apart_filter : (p : ℕ → Bool) (xs : List ℕ) → AreApart xs → AreApart (filter p xs)
apart_filter p [] a = tt
apart_filter p (x ∷ xs) a =
    elim (cases_Bool (p x)) [
      | inl t ↦ rw t (λ i. a.0 (In-filter p xs x i).0, apart_filter p xs a.1)
      | inr f ↦ rw f (apart_filter p xs a.1)
    ]

-- numbers of which those that are no holes are apart
pub apart_no_holes : (xs : List ℕ) → ((j k : ℕ) → slice_index xs j ≡ slice_index xs k → slice_index xs j ≢ 0 → j ≡ k) → AreApart (filter (λ z. not (z == 0)) xs)
apart_no_holes [] once = tt
apart_no_holes (x ∷ xs) once =
    let later = apart_no_holes xs (λ j k e some. let s = once (suc j) (suc k) e some in omega (arith, s)) in
    elim (cases_eq x 0) [
      | inl hole ↦ rw (eq-eqb x 0 hole) later
      | inr some ↦ rw (ne_eqb x 0 some) (
        λ i. (let at = in_index xs x (In-filter (λ z. not (z == 0)) xs x i).0 in let e = once 0 (suc at.0) (sym at.2) some in omega (arith, e)),
        later,
      )
    ]

pub apart_concat : (f : ℕ → List ℕ) (xs : List ℕ) → ((x : ℕ) → In x xs → AreApart (f x)) → ((x y z : ℕ) → In x xs → In y xs → In z (f x) → In z (f y) → x ≡ y) → AreApart xs → AreApart (concat (map f xs))
apart_concat f [] each once a = tt
apart_concat f (x ∷ xs) each once a =
    apart_append (f x) (concat (map f xs)) (each x (inl refl)) (apart_concat f xs (λ y i. each y (inr i)) (λ y w z i j k m. once y w z (inr i) (inr j) k m) a.1)
    (λ z i j. let y = In-concat f xs z j in a.0 (subst (λ w. In w xs) (sym (once x y.0 z (inl refl) (inr y.1) i y.2)) y.1))

-- ---- numbers that rise

pub In-range : (start n z : ℕ) → In z (range_with_len start n) → (start ≤ z) × (z < start + n)
In-range start zero z i = absurd i
In-range start (suc n) z (inl same) = (omega (arith, same), omega (arith, same))
In-range start (suc n) z (inr i) = let x = In-range (start + 1) n z i in (let low = x.0 in omega (arith, low), let high = x.1 in omega (arith, high))

pub apart_range : (start n : ℕ) → AreApart (range_with_len start n)
apart_range start zero = tt
apart_range start (suc n) = (λ i. let low = (In-range (start + 1) n start i).0 in omega (arith, low), apart_range (start + 1) n)
