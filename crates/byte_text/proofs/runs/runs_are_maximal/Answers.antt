use Rattle.std.proofs.Common.{refl, lit<, [], ◌∷◌, List, ℕ, ◌≡◌}
use Rattle.byte_text.specs.Runs.{runs_of, bytes_of, AreMaximal}
use Rattle.byte_text.proofs.RunSteps.{bytes_of-behind, maximal_behind}
use Rattle.byte_text.proofs.runs.runs_are_maximal.Goals as goal

whole : (bytes : List ℕ) → bytes_of (runs_of bytes) ≡ bytes
whole [] = refl
whole (b ∷ bs) = bytes_of-behind 1 b bs

maximal : (bytes : List ℕ) → AreMaximal (runs_of bytes)
maximal [] = tt
maximal (b ∷ bs) = maximal_behind 1 b bs (lit< tt)

pub returns-clause-whole : goal.returns-clause-whole
returns-clause-whole c = whole

pub returns-clause-maximal : goal.returns-clause-maximal
returns-clause-maximal c = maximal
