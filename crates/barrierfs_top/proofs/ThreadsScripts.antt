-- Scripts of runs in threads have no line `flash`.
use Rattle.std.proofs.Common.{◌≡◌, ℕ, ◌+◌, ◌++◌, Bool, true, false, List, [], ◌∷◌, codes, Option, Some, None, Result, Ok, Err, IfOk, refl, sym, ap, ◌∙◌, if◌then◌else◌}
use Rattle.std.proofs.lemmas.Option.{none-some}
use Rattle.std.proofs.lemmas.List.Elements.{filter-append}
use Rattle.script_words.specs.Spelling.{is_skipped, lines_of, words_of}
use Rattle.script_words.specs.laws.Texts.{kept_lines}
use Rattle.script_grammar.specs.declared.script_error.ScriptError.{ScriptError}
use Rattle.script_grammar.specs.laws.Accepted.{begins, beginning}
use Rattle.session_grammar.specs.declared.session_script.SessionScript.{SessionScript}
use Rattle.session_grammar.specs.Grammar.{session_of}
use Rattle.session_grammar.specs.laws.Speller.{number_lines}
use Rattle.session_grammar.proofs.Said.{SaysSession-session_of}
use Rattle.barrierfs_top.specs.Runs.{flash_line, names_flash}

abbrev flashes : List (List (List ℕ)) → List (List (List ℕ))
flashes lines = beginning (codes "flash") lines

begin_alike : (ws : List (List ℕ)) → begins (codes "flash") ws ≡ names_flash ws
begin_alike [] = refl
begin_alike (w ∷ ws) = refl

one_line : (n : ℕ) (l : List ℕ) (ls : List (List ℕ)) (begin skipped : Bool) → names_flash (words_of l) ≡ begin → is_skipped l ≡ skipped → (if begin then Some n else flash_line (n + 1) ls) ≡ None
    → (flash_line (n + 1) ls ≡ None → flashes (kept_lines ls) ≡ []) → flashes (kept_lines (l ∷ ls)) ≡ []
one_line n l ls true skipped b k e rest = absurd (none-some n (sym e))
one_line n l ls false true b k e rest = rw k (rest e)
one_line n l ls false false b k e rest = rw (k, begin_alike (words_of l), b) (rest e)

no_line : (n : ℕ) (ls : List (List ℕ)) → flash_line n ls ≡ None → flashes (kept_lines ls) ≡ []
no_line n [] e = refl
no_line n (l ∷ ls) e = one_line n l ls (names_flash (words_of l)) (is_skipped l) refl refl e (λ rest. no_line (n + 1) ls rest)

empty_front : {A : Type 0} (xs ys : List A) → xs ++ ys ≡ [] → xs ≡ []
empty_front [] ys e = refl
empty_front (x ∷ xs) ys e = absurd (cc)

no_number : (name : List ℕ) (o : Option ℕ) → number_lines name o ≡ [] → o ≡ None
no_number name None e = refl
no_number name (Some n) e = absurd (cc)

session_without : (input : List ℕ) (s : SessionScript) → flash_line 1 (lines_of input) ≡ None → session_of input ≡ Ok s → s.header.flash ≡ None
session_without input s none read =
    let says = SaysSession-session_of input s read in
    let all = no_line 1 (lines_of input) none in
    let header : flashes says.header ≡ [] = empty_front (flashes says.header) _ (sym (filter-append (begins (codes "flash")) says.header _) ∙ (sym (ap flashes says.whole) ∙ all)) in
    no_number (codes "flash") s.header.flash (sym says.headed.flash ∙ header)

-- what is read of a text without such a line
pub read_without : (input : List ℕ) (read : Result SessionScript ScriptError) → flash_line 1 (lines_of input) ≡ None → IfOk read (λ s. session_of input ≡ Ok s) → IfOk read (λ s. s.header.flash ≡ None)
read_without input (Ok s) none is = session_without input s none is
read_without input (Err fault) none is = tt
