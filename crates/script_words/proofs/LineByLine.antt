-- Reading line by line: what is left to read after one line more.
use Rattle.std.proofs.Common.{◌≡◌, ℕ, ◌+◌, ◌<◌, ◌≤◌, List, [], ◌∷◌, length, get_or, drop, map, Option, Result, Ok, Err, refl, add-one, drop-cons}
use Rattle.std.proofs.lemmas.List.{drop_all}
use Rattle.script_words.specs.LineByLine.{line_read, lines_read}

-- the lines from place i on are the one there and those behind it
from_place : {X : Type 0} (f : X → List ℕ) (xs : List X) (i : ℕ) (d : X) → i < length xs → map f (drop i xs) ≡ f (get_or xs i d) ∷ map f (drop (i + 1) xs)
from_place f xs i d lt = rw (add-one, drop-cons xs i d lt) refl

module _ {R K S : Type 0} (read : Option R → List ℕ → Result R K) (ended : ℕ → Option R → Result S (ℕ × K)) where
  -- no line more
  pub read_none : (n : ℕ) (reading : Option R) → lines_read read ended n reading [] ≡ ended n reading
  unfolding lines_read
  read_none n reading = refl

  -- a line that is read
  pub read_step : (n : ℕ) (reading next : Option R) (l : List ℕ) (ls : List (List ℕ)) → line_read read n reading l ≡ Ok next → lines_read read ended n reading (l ∷ ls) ≡ lines_read read ended (n + 1) next ls
  unfolding lines_read
  read_step n reading next l ls h = rw h refl

  -- a line that is faulty
  pub read_stop : (n : ℕ) (reading : Option R) (l : List ℕ) (ls : List (List ℕ)) (fault : ℕ × K) → line_read read n reading l ≡ Err fault → lines_read read ended n reading (l ∷ ls) ≡ Err fault
  unfolding lines_read
  read_stop n reading l ls fault h = rw h refl

  -- the same in a list of lines from place i on
  module _ {X : Type 0} (f : X → List ℕ) (xs : List X) (i n : ℕ) where
    pub goes_on : (d : X) (reading next : Option R) → i < length xs → line_read read n reading (f (get_or xs i d)) ≡ Ok next → lines_read read ended (n + 1) next (map f (drop (i + 1) xs)) ≡ lines_read read ended n reading (map f (drop i xs))
    goes_on d reading next lt h = rw (from_place f xs i d lt, read_step n reading next (f (get_or xs i d)) (map f (drop (i + 1) xs)) h) refl

    pub stops : (d : X) (reading : Option R) (fault : ℕ × K) → i < length xs → line_read read n reading (f (get_or xs i d)) ≡ Err fault → lines_read read ended n reading (map f (drop i xs)) ≡ Err fault
    stops d reading fault lt h = rw (from_place f xs i d lt, read_stop n reading (f (get_or xs i d)) (map f (drop (i + 1) xs)) fault h) refl

    pub ends : (reading : Option R) → length xs ≤ i → lines_read read ended n reading (map f (drop i xs)) ≡ ended n reading
    ends reading le = rw (drop_all i xs le, read_none n reading) refl
