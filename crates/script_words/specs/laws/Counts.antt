-- How often a line is done, as it is written.
use Rattle.std.specs.Prelude.{ℕ, List, [], ◌∷◌, ◌++◌, codes}
use Rattle.std.specs.Fmt.{decimal}

-- a line of one or two words with its count, which is 1 where it says none
abbrev pub with_count : List (List ℕ) → List (List ℕ)
with_count (w ∷ []) = w ∷ codes "x" ∷ codes "1" ∷ []
with_count (w ∷ v ∷ []) = w ∷ v ∷ codes "x" ∷ codes "1" ∷ []
with_count l = l

abbrev pub counted : List (List ℕ) → ℕ → List (List ℕ)
counted ws count = ws ++ codes "x" ∷ decimal count ∷ []
