-- Lines with too few words or too many.
use Rattle.std.proofs.Common.{◌≡◌, ℕ, ◌<◌, List, [], ◌∷◌, length, map, Option, Err, refl, arith}
use Rattle.minix_layout.specs.declared.limits.TheConstants.{DEFAULT_WIDTH}
use Rattle.script_grammar.specs.declared.kinds.ScriptKind.TheVariants as kinds
use Rattle.session_grammar.specs.declared.reading.Reading.{Reading}
use Rattle.session_grammar.specs.Grammar.{wide_told, form_with, form_told, journal_line, zones_line, volume_line, thread_line}

pub journal_of_few : {X : Type 0} (f : X → List ℕ) (inodes zones : Option ℕ) (xs : List X) → length xs < 2 → journal_line inodes zones (map f xs) ≡ Err kinds.Word
journal_of_few f inodes zones [] lt = refl
journal_of_few f inodes zones (x ∷ []) lt = refl
journal_of_few f inodes zones (x ∷ y ∷ xs) lt = absurd (omega arith)

pub form_of_few : {X : Type 0} (f : X → List ℕ) (xs : List X) → length xs < 2 → form_told (map f xs) ≡ form_with DEFAULT_WIDTH (wide_told (map f xs))
form_of_few f [] lt = refl
form_of_few f (x ∷ []) lt = refl
form_of_few f (x ∷ y ∷ xs) lt = absurd (omega arith)

pub zones_of_few : {X : Type 0} (f : X → List ℕ) (inodes : Option ℕ) (xs : List X) → length xs < 2 → zones_line inodes (map f xs) ≡ Err kinds.Word
zones_of_few f inodes [] lt = refl
zones_of_few f inodes (x ∷ []) lt = refl
zones_of_few f inodes (x ∷ y ∷ xs) lt = absurd (omega arith)

pub volume_of_few : {X : Type 0} (f : X → List ℕ) (xs : List X) → length xs < 2 → volume_line (map f xs) ≡ Err kinds.Word
volume_of_few f [] lt = refl
volume_of_few f (x ∷ []) lt = refl
volume_of_few f (x ∷ y ∷ xs) lt = absurd (omega arith)

pub thread_of_few : {X : Type 0} (f : X → List ℕ) (r : Reading) (xs : List X) → length xs < 1 → thread_line r (map f xs) ≡ Err kinds.Word
thread_of_few f r [] lt = refl
thread_of_few f r (x ∷ xs) lt = absurd (omega arith)

pub thread_of_many : {X : Type 0} (f : X → List ℕ) (r : Reading) (xs : List X) → 1 < length xs → thread_line r (map f xs) ≡ Err kinds.Word
thread_of_many f r [] lt = absurd (omega arith)
thread_of_many f r (x ∷ []) lt = absurd (omega arith)
thread_of_many f r (x ∷ y ∷ xs) lt = refl
