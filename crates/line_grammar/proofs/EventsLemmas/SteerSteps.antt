-- Reading the words of a `recover` line one by one.
use Rattle.std.proofs.Common.{◌≡◌, ℕ, ◌+◌, ◌<◌, ◌≤◌, Bool, true, false, List, [], ◌∷◌, ◌++◌, length, get_or, drop, map, Result, Ok, Err, refl, sym, ap, ◌∙◌, add-one, drop-cons, append_assoc}
use Rattle.std.proofs.lemmas.List.{drop_all}
use Rattle.line_grammar.specs.declared.events.steer.Steer.{Steer}
use Rattle.line_grammar.specs.events.SteerLines.{steer_of, before_all, all_of}
use Rattle.script_words.specs.declared.line_error.LineFault.{LineFault}
use Rattle.script_words.specs.declared.line_error.LineFault.TheVariants as faults

-- what comes of all words, by those that were read and the rest
abbrev pub finish : List Steer → Bool → Result (List Steer) LineFault → Result (List Steer) LineFault
finish steers true (Ok ss) = Ok (steers ++ ss)
finish steers false (Ok ss) = Err faults.Number
finish steers within (Err fault) = Err fault

finish-one : (steers : List Steer) (within : Bool) (s : Steer) (r : Result (List Steer) LineFault) → finish (steers ++ s ∷ []) within r ≡ finish steers within (before_all (Ok s) r)
finish-one steers true s (Ok ss) = ap Ok (append_assoc steers (s ∷ []) ss)
finish-one steers false s (Ok ss) = refl
finish-one steers true s (Err fault) = refl
finish-one steers false s (Err fault) = refl

finish-number : (steers : List Steer) (within : Bool) (r : Result (List Steer) LineFault) → finish steers false r ≡ finish steers within (before_all (Err faults.Number) r)
finish-number steers true (Ok ss) = refl
finish-number steers false (Ok ss) = refl
finish-number steers true (Err fault) = refl
finish-number steers false (Err fault) = refl

finish-spelling : (steers : List Steer) (within : Bool) (r : Result (List Steer) LineFault) → finish steers within (before_all (Err faults.Spelling) r) ≡ Err faults.Spelling
finish-spelling steers true r = refl
finish-spelling steers false r = refl

-- the words from place i on are the one there and those behind it
all_from : {X : Type 0} (f : X → List ℕ) (xs : List X) (i : ℕ) (d : X) → i < length xs → all_of (map f (drop i xs)) ≡ before_all (steer_of (f (get_or xs i d))) (all_of (map f (drop (i + 1) xs)))
unfolding all_of
all_from f xs i d lt = rw (add-one, drop-cons xs i d lt) refl

pub step_steer : {X : Type 0} (f : X → List ℕ) (xs : List X) (i : ℕ) (d : X) (steers : List Steer) (within : Bool) (s : Steer) → i < length xs → steer_of (f (get_or xs i d)) ≡ Ok s
    → finish (steers ++ s ∷ []) within (all_of (map f (drop (i + 1) xs))) ≡ finish steers within (all_of (map f (drop i xs)))
step_steer f xs i d steers within s lt h =
    finish-one steers within s (all_of (map f (drop (i + 1) xs)))
    ∙ ap (λ r. finish steers within (before_all r (all_of (map f (drop (i + 1) xs))))) (sym h)
    ∙ ap (finish steers within) (sym (all_from f xs i d lt))

pub step_number : {X : Type 0} (f : X → List ℕ) (xs : List X) (i : ℕ) (d : X) (steers : List Steer) (within : Bool) → i < length xs → steer_of (f (get_or xs i d)) ≡ Err faults.Number
    → finish steers false (all_of (map f (drop (i + 1) xs))) ≡ finish steers within (all_of (map f (drop i xs)))
step_number f xs i d steers within lt h =
    finish-number steers within (all_of (map f (drop (i + 1) xs)))
    ∙ ap (λ r. finish steers within (before_all r (all_of (map f (drop (i + 1) xs))))) (sym h)
    ∙ ap (finish steers within) (sym (all_from f xs i d lt))

pub step_spelling : {X : Type 0} (f : X → List ℕ) (xs : List X) (i : ℕ) (d : X) (steers : List Steer) (within : Bool) → i < length xs → steer_of (f (get_or xs i d)) ≡ Err faults.Spelling
    → finish steers within (all_of (map f (drop i xs))) ≡ Err faults.Spelling
step_spelling f xs i d steers within lt h =
    ap (finish steers within) (all_from f xs i d lt)
    ∙ ap (λ r. finish steers within (before_all r (all_of (map f (drop (i + 1) xs))))) h
    ∙ finish-spelling steers within (all_of (map f (drop (i + 1) xs)))

-- no word is left
pub finished : {X : Type 0} (f : X → List ℕ) (xs : List X) (i : ℕ) (steers : List Steer) (within : Bool) → length xs ≤ i → finish steers within (all_of (map f (drop i xs))) ≡ finish steers within (Ok [])
unfolding all_of
finished f xs i steers within le = rw (drop_all i xs le) refl
