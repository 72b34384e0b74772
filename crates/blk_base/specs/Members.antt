-- Membership by cases on the list, and lists whose keys rise.
use Rattle.std.specs.Prelude.{◌≡◌, ℕ, ◌<◌, List, [], ◌∷◌, ◌⊎◌, ⊤}

-- x is an element of the list
abbrev pub In : {X : Type 0} → X → List X → Type 0
In x [] = ⊥
In x (y ∷ ys) = (y ≡ x) ⊎ In x ys

-- the keys rise from each element to the later ones
abbrev pub IsAscending : {X : Type 0} → (X → ℕ) → List X → Type 0
IsAscending key [] = ⊤
IsAscending {X} key (x ∷ xs) = ((y : X) → In y xs → key x < key y) × IsAscending key xs
