-- Words that are tested for spaces and line feeds.
use Rattle.std.proofs.Common.{◌≡◌, ℕ, true, false, not, ◌==◌, ◌&&◌, List, [], ◌∷◌, refl}
use Rattle.std.specs.List.{list_all, join_with_byte}
use Rattle.std.proofs.lemmas.Bool.{and_parts, and_from}
use Rattle.script_words.specs.Spelling.{is_skipped}
use Rattle.script_words.specs.laws.Texts.{are_clear}
use Rattle.script_words.proofs.SpelledWords.{lacks, IsClear, AreClear, AreClearLines}

lacks-space : (w : List ℕ) → list_all (λ b. not (b == 32) && not (b == 10)) w ≡ true → lacks 32 w ≡ true
lacks-space [] h = refl
lacks-space (b ∷ bs) h =
    let p = and_parts (not (b == 32) && not (b == 10)) (list_all (λ b. not (b == 32) && not (b == 10)) bs) h in
    and_from (not (b == 32)) (lacks 32 bs) (and_parts (not (b == 32)) (not (b == 10)) p.0).0 (lacks-space bs p.1)

lacks-feed : (w : List ℕ) → list_all (λ b. not (b == 32) && not (b == 10)) w ≡ true → lacks 10 w ≡ true
lacks-feed [] h = refl
lacks-feed (b ∷ bs) h =
    let p = and_parts (not (b == 32) && not (b == 10)) (list_all (λ b. not (b == 32) && not (b == 10)) bs) h in
    and_from (not (b == 10)) (lacks 10 bs) (and_parts (not (b == 32)) (not (b == 10)) p.0).1 (lacks-feed bs p.1)

pub AreClear-are_clear : (ws : List (List ℕ)) → are_clear ws ≡ true → AreClear ws
AreClear-are_clear [] h = tt
AreClear-are_clear (w ∷ ws) h =
    let p = and_parts (list_all (λ b. not (b == 32) && not (b == 10)) w) (are_clear ws) h in
    (record { feed = lacks-feed w p.0; space = lacks-space w p.0 }, AreClear-are_clear ws p.1)

pub AreClearLines-are_clear : (ls : List (List (List ℕ))) → list_all are_clear ls ≡ true → AreClearLines ls
AreClearLines-are_clear [] h = tt
AreClearLines-are_clear (l ∷ ls) h =
    let p = and_parts (are_clear l) (list_all are_clear ls) h in
    (AreClear-are_clear l p.0, AreClearLines-are_clear ls p.1)

-- a line is not skipped where its first word would not be
pub there : (w : List ℕ) (ws : List (List ℕ)) → is_skipped w ≡ false → is_skipped (join_with_byte 32 (w ∷ ws)) ≡ false
there [] ws h = cc
there (b ∷ bs) [] h = h
there (b ∷ bs) (v ∷ vs) h = h
