-- Parts of a list of zones: what is taken of it, and what is left.
use Rattle.std.specs.Prelude.{◌≡◌, ℕ, zero, suc, ◌+◌, ◌<◌, ◌⊎◌, List, [], ◌∷◌, length, take, drop, slice_index}
use Rattle.std.proofs.Common.{subst, inl, inr, ⊎_elim, arith}
use Rattle.std.proofs.lemmas.List.{length-take}
use Rattle.blk_base.specs.Members.{In}
use Rattle.widening.proofs.ZoneLists.{AreApart, index_in, index_take, taken_or_left, In-drop}

pub part_of : (n : ℕ) (xs : List ℕ) (z : ℕ) → In z xs → In z (take n xs) ⊎ In z (drop n xs)
part_of zero xs z i = inr i
part_of (suc n) [] z i = absurd i
part_of (suc n) (x ∷ xs) z (inl same) = inl (inl same)
part_of (suc n) (x ∷ xs) z (inr i) = ⊎_elim (λ a. inl (inr a)) (λ b. inr b) (part_of n xs z i)

-- of one element more, that one is the next
pub next_of : (n : ℕ) (xs : List ℕ) (z : ℕ) → In z (take (suc n) xs) → In z (take n xs) ⊎ (slice_index xs n ≡ z)
next_of n [] z i = absurd i
next_of zero (x ∷ xs) z (inl same) = inr same
next_of zero (x ∷ xs) z (inr i) = absurd i
next_of (suc n) (x ∷ xs) z (inl same) = inl (inl same)
next_of (suc n) (x ∷ xs) z (inr i) = ⊎_elim (λ a. inl (inr a)) (λ b. inr b) (next_of n xs z i)

pub taken_some : (n : ℕ) (xs : List ℕ) (z : ℕ) → In z (take n xs) → 0 < n
taken_some zero xs z i = absurd i
taken_some (suc n) xs z i = omega arith

pub dropped_long : (n : ℕ) (xs : List ℕ) (z : ℕ) → In z (drop n xs) → n < length xs
dropped_long zero [] z i = absurd i
dropped_long zero (x ∷ xs) z i = omega arith
dropped_long (suc n) [] z i = absurd i
dropped_long (suc n) (x ∷ xs) z i = let low = dropped_long n xs z i in omega (arith, low)

-- what is left when more is taken is left when less is
pub dropped_more : (n k : ℕ) (xs : List ℕ) (z : ℕ) → In z (drop (n + k) xs) → In z (drop n xs)
dropped_more zero k xs z i = In-drop (zero + k) xs z i
dropped_more (suc n) k [] z i = In-drop (suc n + k) [] z i
dropped_more (suc n) k (x ∷ xs) z i = let e : suc n + k ≡ suc (n + k) = omega arith in dropped_more n k xs z (subst (λ m. In z (drop m (x ∷ xs))) e i)

-- an element that is taken is not left
pub index_not_left : (n : ℕ) (xs : List ℕ) → AreApart xs → n < length xs → In (slice_index xs n) (drop (n + 1) xs) → ⊥
index_not_left n xs apart low i =
    let part = length-take (n + 1) xs in
    taken_or_left (n + 1) xs (slice_index xs n) apart
    (subst (λ z. In z (take (n + 1) xs)) (index_take (n + 1) xs n (omega arith)) (index_in (take (n + 1) xs) n (omega (arith, part, low)))) i
