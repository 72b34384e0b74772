-- Lists in rising order of a key, with at most one element of each key.
use Rattle.std.specs.List.{filter}
use Rattle.std.specs.Prelude.{ℕ, ◌==◌, not, nat_lt, List, [], ◌∷◌, if◌then◌else◌}

-- an element comes in the place of the one with its key, or else where it stands in order
abbrev pub put_by : {X : Type 0} → (X → ℕ) → List X → X → List X
put_by key [] q = q ∷ []
put_by key (x ∷ xs) q = if key x == key q then q ∷ xs else if nat_lt (key q) (key x) then q ∷ x ∷ xs else x ∷ put_by key xs q

-- the list without the element of this key; where there is none, the list as it is
abbrev pub drop_by : {X : Type 0} → (X → ℕ) → List X → ℕ → List X
drop_by key xs n = filter (λ x. not (key x == n)) xs
