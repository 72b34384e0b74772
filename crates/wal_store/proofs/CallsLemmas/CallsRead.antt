-- The line that is written of a call is read as that call.
use Rattle.std.specs.Prelude.{◌≡◌, ℕ, List, [], ◌∷◌, Ok}
use Rattle.std.proofs.Common.{refl, sym, ap, subst, ◌∙◌}
use Rattle.std.specs.List.{join_with_byte}
use Rattle.tree_model.specs.declared.call.Call.{Call}
use Rattle.tree_model.specs.declared.call.Call.TheVariants as calls
use Rattle.script_words.specs.Spelling.{words_of}
use Rattle.script_words.proofs.SpelledWords.{AreClear, words_of-joined}
use Rattle.line_grammar.specs.calls.WellFormed.{IsWellFormed}
use Rattle.line_grammar.specs.calls.laws.Speller.{call_words, line_of}
use Rattle.line_grammar.proofs.CallsLemmas.ClearCalls.{AreClear-line_of}
use Rattle.line_grammar.proofs.CallsLemmas.SpelledCalls.{line_of-read, call_words-lower}
use Rattle.wal_store.specs.calls.CallText.{call_line}

-- a line has a word at least
some-words : (c : Call) → (w : List ℕ) × (ws : List (List ℕ)) × (call_words c ≡ w ∷ ws)
some-words (calls.Mkdir p) = (_, _, refl)
some-words (calls.Rmdir p) = (_, _, refl)
some-words (calls.Create p) = (_, _, refl)
some-words (calls.Unlink p) = (_, _, refl)
some-words (calls.Link p q) = (_, _, refl)
some-words (calls.Rename p q) = (_, _, refl)
some-words (calls.Truncate p size) = (_, _, refl)
some-words (calls.Write p off len value) = (_, _, refl)
some-words (calls.Bytes p off bytes) = (_, _, refl)
some-words (calls.Read p off len) = (_, _, refl)
some-words (calls.List p) = (_, _, refl)
some-words (calls.Stat p) = (_, _, refl)
some-words (calls.Fsync p) = (_, _, refl)
some-words (calls.Fdatasync p) = (_, _, refl)
some-words (calls.Fbarrier p) = (_, _, refl)
some-words (calls.Fdatabarrier p) = (_, _, refl)
some-words calls.Sync = (_, _, refl)

parted : (ws : List (List ℕ)) (w : List ℕ) (vs : List (List ℕ)) → ws ≡ w ∷ vs → AreClear ws → words_of (join_with_byte 32 ws) ≡ ws
parted ws w vs e clear = ap (λ x. words_of (join_with_byte 32 x)) e ∙ words_of-joined w vs (subst AreClear e clear) ∙ sym e

pub line-words : (c : Call) → IsWellFormed c → words_of (call_line c) ≡ call_words c
line-words c is =
    let read = line_of-read (call_words c) c is (call_words-lower c is) in
    let some = some-words c in
    parted (call_words c) some.0 some.1 some.2 (AreClear-line_of (call_words c) c read)

pub line-read : (c : Call) → IsWellFormed c → line_of (words_of (call_line c)) ≡ Ok c
line-read c is = ap line_of (line-words c is) ∙ line_of-read (call_words c) c is (call_words-lower c is)
