-- Marks by number: a list that says of each number whether it was met.
use Rattle.std.specs.Prelude.{ℕ, ◌+◌, Bool, true, false, if◌then◌else◌, List, [], ◌∷◌, replicate, slice_index_or, slice_set}

-- so many numbers from 0 on, none of them met
abbrev pub no_marks : ℕ → List Bool
no_marks n = replicate n false

-- this number was met; false for one past the marks
abbrev pub is_marked : List Bool → ℕ → Bool
is_marked marks k = slice_index_or marks k false

abbrev pub marked : List Bool → ℕ → List Bool
marked marks k = slice_set marks k true

-- how many were not met
abbrev pub unmet : List Bool → ℕ
unmet [] = 0
unmet (b ∷ bs) = (if b then 0 else 1) + unmet bs
