-- Words that are dealt to threads, one after the other.
use Rattle.std.proofs.Common.{◌≡◌, ℕ, ◌+◌, ◌%◌, ◌==◌, ◌++◌, Bool, true, false, List, [], ◌∷◌, map, drop, append_assoc, sym, ap, ◌∙◌, if◌then◌else◌}
use Rattle.session_report.specs.bulk.Workload.{words_for}

-- the word at this place goes to the thread
pub word_taken : {Y : Type 0} (f : ℕ → Y) (thread place w : ℕ) (words : List ℕ) (done more all : List Y) → drop place words ≡ w ∷ drop (place + 1) words → (1 + place % 4 == thread) ≡ true
    → more ≡ done ++ f w ∷ [] → done ++ map f (words_for thread place (drop place words)) ≡ all → more ++ map f (words_for thread (place + 1) (drop (place + 1) words)) ≡ all
word_taken {Y} f thread place w words done more all here test grown left =
    let rest = words_for thread (place + 1) (drop (place + 1) words) in
    ap (λ (ys : List Y). ys ++ map f rest) grown
    ∙ append_assoc done (f w ∷ []) (map f rest)
    ∙ sym (ap (λ (ws : List ℕ). done ++ map f (words_for thread place ws)) here ∙ ap (λ (t : Bool). done ++ map f (if t then w ∷ rest else rest)) test)
    ∙ left

-- it goes to another
pub word_passed : {Y : Type 0} (f : ℕ → Y) (thread place w : ℕ) (words : List ℕ) (done more all : List Y) → drop place words ≡ w ∷ drop (place + 1) words → (1 + place % 4 == thread) ≡ false
    → more ≡ done → done ++ map f (words_for thread place (drop place words)) ≡ all → more ++ map f (words_for thread (place + 1) (drop (place + 1) words)) ≡ all
word_passed {Y} f thread place w words done more all here test same left =
    let rest = words_for thread (place + 1) (drop (place + 1) words) in
    ap (λ (ys : List Y). ys ++ map f rest) same
    ∙ sym (ap (λ (ws : List ℕ). done ++ map f (words_for thread place ws)) here ∙ ap (λ (t : Bool). done ++ map f (if t then w ∷ rest else rest)) test)
    ∙ left
