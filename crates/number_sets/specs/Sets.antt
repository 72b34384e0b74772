-- Sets of numbers: lists in which each number stands once, in rising order.
use Rattle.std.specs.List.{filter, list_any}
use Rattle.std.specs.Prelude.{ℕ, ◌==◌, Bool, not, nat_lt, List, [], ◌∷◌, if◌then◌else◌}
use Rattle.blk_base.specs.Members.{IsAscending}

abbrev pub IsRising : List ℕ → Type 0
IsRising = IsAscending (λ n. n)

abbrev pub has : List ℕ → ℕ → Bool
has xs x = list_any (λ y. y == x) xs

-- a number that is in the set changes nothing
abbrev pub with : List ℕ → ℕ → List ℕ
with [] x = x ∷ []
with (y ∷ ys) x = if y == x then y ∷ ys else if nat_lt x y then x ∷ y ∷ ys else y ∷ with ys x

-- the numbers of the second list, which may be in any order, go into the set
abbrev pub with_all : List ℕ → List ℕ → List ℕ
with_all xs [] = xs
with_all xs (y ∷ ys) = with_all (with xs y) ys

-- the first set without the numbers of the second list
abbrev pub without_all : List ℕ → List ℕ → List ℕ
without_all xs ys = filter (λ x. not (has ys x)) xs
