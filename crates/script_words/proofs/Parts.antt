-- How many parts a list is cut into.
use Rattle.std.proofs.Common.{◌≡◌, ℕ, ◌+◌, ◌≤◌, Bool, List, length, map, ap, arith}
use Rattle.std.specs.List.{slice_split}
use Rattle.std.proofs.lemmas.List.{length-map}
use Rattle.std.proofs.lemmas.List.Splits.{length-slice_split}
use Rattle.std.proofs.lemmas.List.Sums.{count_by-le-length}

-- a list is cut into at most one part more than it has elements
pub few_parts : {X : Type 0} (f : X → List ℕ) (xs : List X) (p : ℕ → Bool) (bytes : List ℕ) → map f xs ≡ slice_split p bytes → length xs ≤ length bytes + 1
few_parts f xs p bytes h = omega (arith, length-map xs f, ap length h, length-slice_split p bytes, count_by-le-length p bytes)
