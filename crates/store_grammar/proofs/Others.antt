-- Lines with too few words or too many.
use Rattle.std.proofs.Common.{◌≡◌, ℕ, ◌<◌, List, [], ◌∷◌, length, map, Err, refl, arith}
use Rattle.script_grammar.specs.declared.kinds.ScriptKind.TheVariants as kinds
use Rattle.store_grammar.specs.declared.reading.Reading.{Reading}
use Rattle.store_grammar.specs.Grammar.{put_line}

pub put_of_few : {X : Type 0} (f : X → List ℕ) (r : Reading) (xs : List X) → length xs < 2 → put_line r (map f xs) ≡ Err kinds.Word
put_of_few f r [] lt = refl
put_of_few f r (x ∷ []) lt = refl
put_of_few f r (x ∷ y ∷ xs) lt = absurd (omega arith)

pub put_of_many : {X : Type 0} (f : X → List ℕ) (r : Reading) (xs : List X) → 2 < length xs → put_line r (map f xs) ≡ Err kinds.Word
put_of_many f r [] lt = absurd (omega arith)
put_of_many f r (x ∷ []) lt = absurd (omega arith)
put_of_many f r (x ∷ y ∷ []) lt = absurd (omega arith)
put_of_many f r (x ∷ y ∷ z ∷ xs) lt = refl
