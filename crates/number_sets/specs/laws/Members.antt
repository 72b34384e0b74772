-- What sets of numbers have.
use Rattle.std.proofs.Common.{sym, subst, ◌∙◌, inl, inr, ⊎_elim, eqb-true, eq-eqb}
use Rattle.std.proofs.lemmas.Bool.{cases_Bool, false≢true, not_from_true, not_from_false, false_from_ne_true}
use Rattle.std.specs.Prelude.{◌≡◌, ℕ, ◌==◌, Bool, true, false, not, nat_lt, ◌⊎◌, List, [], ◌∷◌, refl, if◌then◌else◌}
use Rattle.blk_base.specs.Members.{In}
use Rattle.blk_base.specs.laws.Members.{In-list_any, list_any-In, In-filter, filter-In}
use Rattle.number_sets.specs.Sets.{has, with, with_all, without_all}

pub has-In : (xs : List ℕ) (x : ℕ) → has xs x ≡ true → In x xs
has-In xs x t = let i = In-list_any (λ y. y == x) xs t in subst (λ y. In y xs) (eqb-true i.0 x i.2) i.1

pub In-has : (xs : List ℕ) (x : ℕ) → In x xs → has xs x ≡ true
In-has xs x i = list_any-In (λ y. y == x) xs x i (eq-eqb x x refl)

pub In_or_not : (xs : List ℕ) (x : ℕ) → In x xs ⊎ (In x xs → ⊥)
In_or_not xs x = ⊎_elim (λ t. inl (has-In xs x t)) (λ f. inr (λ i. false≢true (sym f ∙ In-has xs x i))) (cases_Bool (has xs x))

pub In-with : (xs : List ℕ) (x y : ℕ) → In y (with xs x) → In y xs ⊎ (x ≡ y)
In-with [] x y (inl e) = inr e
In-with [] x y (inr n) = absurd n
In-with (z ∷ zs) x y i = first (In-with zs x y) (z == x) i
  where
    second : (In y (with zs x) → In y zs ⊎ (x ≡ y)) → (t : Bool) → In y (if t then x ∷ z ∷ zs else z ∷ with zs x) → In y (z ∷ zs) ⊎ (x ≡ y)
    second rest true (inl e) = inr e
    second rest true (inr j) = inl j
    second rest false (inl e) = inl (inl e)
    second rest false (inr j) = ⊎_elim (λ l. inl (inr l)) inr (rest j)

    first : (In y (with zs x) → In y zs ⊎ (x ≡ y)) → (t : Bool) → In y (if t then z ∷ zs else if nat_lt x z then x ∷ z ∷ zs else z ∷ with zs x) → In y (z ∷ zs) ⊎ (x ≡ y)
    first rest true j = inl j
    first rest false j = second rest (nat_lt x z) j

pub with-In : (xs : List ℕ) (x y : ℕ) → In y xs ⊎ (x ≡ y) → In y (with xs x)
with-In [] x y (inl n) = absurd n
with-In [] x y (inr e) = inl e
with-In (z ∷ zs) x y i = first (with-In zs x y) (z == x) refl
  where
    second : (In y zs ⊎ (x ≡ y) → In y (with zs x)) → (t : Bool) → In y (if t then x ∷ z ∷ zs else z ∷ with zs x)
    second rest true = ⊎_elim (λ l. inr l) inl i
    second rest false = ⊎_elim (λ l. ⊎_elim (λ e. inl e) (λ j. inr (rest (inl j))) l) (λ e. inr (rest (inr e))) i

    first : (In y zs ⊎ (x ≡ y) → In y (with zs x)) → (t : Bool) → (z == x) ≡ t → In y (if t then z ∷ zs else if nat_lt x z then x ∷ z ∷ zs else z ∷ with zs x)
    first rest true e = ⊎_elim (λ l. l) (λ q. inl (eqb-true z x e ∙ q)) i
    first rest false e = second rest (nat_lt x z)

pub In-with_all : (xs ys : List ℕ) (y : ℕ) → In y (with_all xs ys) → In y xs ⊎ In y ys
In-with_all xs [] y i = inl i
In-with_all xs (z ∷ zs) y i =
    ⊎_elim (λ l. ⊎_elim inl (λ e. inr (inl e)) (In-with xs z y l)) (λ r. inr (inr r)) (In-with_all (with xs z) zs y i)

pub with_all-In : (xs ys : List ℕ) (y : ℕ) → In y xs ⊎ In y ys → In y (with_all xs ys)
with_all-In xs [] y i = ⊎_elim (λ l. l) (λ n. absurd n) i
with_all-In xs (z ∷ zs) y i =
    with_all-In (with xs z) zs y
    (⊎_elim (λ l. inl (with-In xs z y (inl l))) (λ r. ⊎_elim (λ e. inl (with-In xs z y (inr e))) inr r) i)

pub In-without_all : (xs ys : List ℕ) (y : ℕ) → In y (without_all xs ys) → In y xs × (In y ys → ⊥)
In-without_all xs ys y i =
    let p = In-filter (λ x. not (has ys x)) xs y i in
    (p.0, λ j. false≢true (sym (not_from_true (has ys y) (In-has ys y j)) ∙ p.1))

pub without_all-In : (xs ys : List ℕ) (y : ℕ) → In y xs → (In y ys → ⊥) → In y (without_all xs ys)
without_all-In xs ys y i n =
    filter-In (λ x. not (has ys x)) xs y i (not_from_false (has ys y) (false_from_ne_true (has ys y) (λ t. n (has-In ys y t))))
