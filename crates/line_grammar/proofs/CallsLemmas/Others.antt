-- Lines with too few words or too many.
use Rattle.std.proofs.Common.{◌≡◌, ℕ, ◌<◌, List, [], ◌∷◌, length, map, Err, refl, arith}
use Rattle.script_words.specs.declared.line_error.LineFault.TheVariants as faults
use Rattle.line_grammar.specs.declared.calls.words.PlaceWord.{PlaceWord}
use Rattle.line_grammar.specs.calls.CallLines.{call_taken, write_at, place_spelled}

pub write_of_few : {X : Type 0} (f : X → List ℕ) (path : List ℕ) (off : ℕ) (xs : List X) → length xs < 2 → call_taken (write_at path off (map f xs)) ≡ Err faults.Spelling
write_of_few f path off [] lt = refl
write_of_few f path off (x ∷ []) lt = refl
write_of_few f path off (x ∷ y ∷ xs) lt = absurd (omega arith)

pub write_of_many : {X : Type 0} (f : X → List ℕ) (path : List ℕ) (off : ℕ) (xs : List X) → 2 < length xs → call_taken (write_at path off (map f xs)) ≡ Err faults.Spelling
write_of_many f path off [] lt = absurd (omega arith)
write_of_many f path off (x ∷ []) lt = absurd (omega arith)
write_of_many f path off (x ∷ y ∷ []) lt = absurd (omega arith)
write_of_many f path off (x ∷ y ∷ z ∷ xs) lt = refl

pub place_of_few : {X : Type 0} (f : X → List ℕ) (w : PlaceWord) (xs : List X) → length xs < 2 → call_taken (place_spelled w (map f xs)) ≡ Err faults.Spelling
place_of_few f w [] lt = refl
place_of_few f w (x ∷ []) lt = refl
place_of_few f w (x ∷ y ∷ xs) lt = absurd (omega arith)
