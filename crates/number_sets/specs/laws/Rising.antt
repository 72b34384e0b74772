-- The order of sets of numbers.
use Rattle.std.proofs.Common.{◌≡◌, ℕ, ◌+◌, ◌<◌, ◌≤◌, ◌==◌, Bool, true, false, not, nat_lt, if◌then◌else◌, List, [], ◌∷◌, length, refl, sym, subst, ◌∙◌, ⊎_elim, arith, eq-eqb}
use Rattle.std.proofs.lemmas.Bool.{false≢true, ltb-true, ltb-false}
use Rattle.blk_base.specs.Members.{In}
use Rattle.blk_base.specs.laws.Members.{IsAscending-filter}
use Rattle.number_sets.specs.Sets.{IsRising, has, with, with_all, without_all}
use Rattle.number_sets.specs.laws.Keyed.{ascending-few}
use Rattle.number_sets.specs.laws.Members.{In-with}

pub rising-with : (xs : List ℕ) (x : ℕ) → IsRising xs → IsRising (with xs x)
rising-with [] x r = (λ y i. absurd i, tt)
rising-with (z ∷ zs) x r = first (rising-with zs x r.1) (z == x) refl
  where
    above : (z ≡ x → ⊥) → z ≤ x → z < x
    above apart high = omega (arith, high, apart)

    second : IsRising (with zs x) → (t : Bool) → (z == x) ≡ false → nat_lt x z ≡ t → IsRising (if t then x ∷ z ∷ zs else z ∷ with zs x)
    second rest true ne lt =
        let less = ltb-true x z lt in
        (λ y i. ⊎_elim (λ e. let q : z ≡ y = e in omega (arith, less, q)) (λ j. let more = r.0 y j in omega (arith, less, more)) i, r)
    second rest false ne ge =
        let apart : (z ≡ x → ⊥) = λ e. false≢true (sym ne ∙ eq-eqb z x e) in
        (λ y i. ⊎_elim (λ j. r.0 y j) (λ e. subst (λ n. z < n) e (above apart (ltb-false x z ge))) (In-with zs x y i), rest)

    first : IsRising (with zs x) → (t : Bool) → (z == x) ≡ t → IsRising (if t then z ∷ zs else if nat_lt x z then x ∷ z ∷ zs else z ∷ with zs x)
    first rest true e = r
    first rest false e = second rest (nat_lt x z) e refl

pub rising-with_all : (xs ys : List ℕ) → IsRising xs → IsRising (with_all xs ys)
rising-with_all xs [] r = r
rising-with_all xs (y ∷ ys) r = rising-with_all (with xs y) ys (rising-with xs y r)

pub rising-without_all : (xs ys : List ℕ) → IsRising xs → IsRising (without_all xs ys)
rising-without_all xs ys r = IsAscending-filter (λ n. n) (λ x. not (has ys x)) xs r

-- a set of numbers below n has at most n
pub rising-few : (xs : List ℕ) (n : ℕ) → IsRising xs → ((x : ℕ) → In x xs → x < n) → length xs ≤ n
rising-few xs n = ascending-few (λ x. x) xs n

pub with-longer : (xs : List ℕ) (x : ℕ) → length (with xs x) ≤ length xs + 1
with-longer [] x = omega arith
with-longer (z ∷ zs) x = first (with-longer zs x) (z == x)
  where
    second : length (with zs x) ≤ length zs + 1 → (t : Bool) → length (if t then x ∷ z ∷ zs else z ∷ with zs x) ≤ length (z ∷ zs) + 1
    second rest true = omega arith
    second rest false = omega (arith, rest)

    first : length (with zs x) ≤ length zs + 1 → (t : Bool) → length (if t then z ∷ zs else if nat_lt x z then x ∷ z ∷ zs else z ∷ with zs x) ≤ length (z ∷ zs) + 1
    first rest true = omega arith
    first rest false = second rest (nat_lt x z)
