-- How the lines of a text are read one after the other. A grammar gives what a line that is not skipped makes of
-- what was read before it, `read`, and what was read in the end, `ended`.
use Rattle.std.specs.Prelude.{ℕ, ◌+◌, List, [], ◌∷◌, Option, Some, Result, Ok, Err, if◌then◌else◌}
use Rattle.script_words.specs.Spelling.{is_skipped}

-- a fault in the line with this number
abbrev pub at_line : {R K : Type 0} → ℕ → Result R K → Result (Option R) (ℕ × K)
at_line n (Ok r) = Ok (Some r)
at_line n (Err kind) = Err (n, kind)

-- what is read after one line
abbrev pub line_read : {R K : Type 0} → (Option R → List ℕ → Result R K) → ℕ → Option R → List ℕ → Result (Option R) (ℕ × K)
line_read read n reading l = if is_skipped l then Ok reading else at_line n (read reading l)

infixl 10 ◌>>=◌
abbrev ◌>>=◌ : {A B E : Type 0} → Result A E → (A → Result B E) → Result B E
Ok x >>= f = f x
Err e >>= f = Err e

-- what is read of lines, of which the first has this number
unfoldable pub lines_read : {R K S : Type 0} → (Option R → List ℕ → Result R K) → (ℕ → Option R → Result S (ℕ × K)) → ℕ → Option R → List (List ℕ) → Result S (ℕ × K)
lines_read read ended n reading [] = ended n reading
lines_read read ended n reading (l ∷ ls) = do
  next ← line_read read n reading l
  lines_read read ended (n + 1) next ls
