-- Calls of threads.
use Rattle.std.specs.Prelude.{ℕ, List, [], ◌∷◌, ◌++◌, length}

-- one more at the end of the last list
abbrev pub pushed_last : {A : Type 0} → List (List A) → A → List (List A)
pushed_last [] x = []
pushed_last (t ∷ []) x = (t ++ x ∷ []) ∷ []
pushed_last (t ∷ u ∷ ts) x = t ∷ pushed_last (u ∷ ts) x

-- how long the last list is
abbrev pub last_length : {A : Type 0} → List (List A) → ℕ
last_length [] = 0
last_length (t ∷ []) = length t
last_length (t ∷ u ∷ ts) = last_length (u ∷ ts)
