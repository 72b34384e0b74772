-- Where a number stands in a list in rising order.
use Rattle.std.specs.Prelude.{◌≡◌, ℕ, ◌<◌, ◌≤◌, true, false, List, [], ◌∷◌, length, Result, Ok, Err}
use Rattle.std.specs.List.{insert, remove}
use Rattle.number_sets.specs.Sets.{has, with, without_all}

-- it stands at this place
pub record StandsAt (xs : List ℕ) (x at : ℕ) : Type 0 where
  pub within : at < length xs
  pub has : has xs x ≡ true
  pub added : with xs x ≡ xs
  pub taken : without_all xs (x ∷ []) ≡ remove xs at

-- it is not there, and would stand at this place
pub record BelongsAt (xs : List ℕ) (x at : ℕ) : Type 0 where
  pub within : at ≤ length xs
  pub none : has xs x ≡ false
  pub added : with xs x ≡ insert xs at x
  pub taken : without_all xs (x ∷ []) ≡ xs

-- Ok is the place at which the number stands, Err the one at which it would go in
abbrev pub IsPlaceOf : List ℕ → ℕ → Result ℕ ℕ → Type 0
IsPlaceOf xs x (Ok at) = StandsAt xs x at
IsPlaceOf xs x (Err at) = BelongsAt xs x at
