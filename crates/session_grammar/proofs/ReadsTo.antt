-- Lines, each as its words, are read one after the other.
use Rattle.std.proofs.Common.{◌≡◌, ℕ, true, false, not, List, [], ◌∷◌, map, Option, Some, None, Ok, Err, refl, sym, ap, ◌∙◌, if◌then◌else◌}
use Rattle.std.specs.List.{join_with_byte}
use Rattle.std.proofs.lemmas.List.Splits.{join_with_byte-slice_split}
use Rattle.script_words.specs.Spelling.{is_skipped, words_of, lines_of}
use Rattle.script_words.specs.laws.Texts.{lines_text, kept_lines}
use Rattle.script_words.proofs.KeptLines as text
use Rattle.script_words.proofs.KeptLines.{kept_lines-one, ends_reads}
use Rattle.script_words.proofs.SpelledWords.{AreClear, AreClearLines, lines_of-text, words_of-joined}
use Rattle.script_grammar.specs.declared.kinds.ScriptKind.TheVariants as kinds
use Rattle.session_grammar.specs.declared.reading.Reading.{Reading}
use Rattle.session_grammar.specs.declared.session_script.SessionScript.{SessionScript}
use Rattle.session_grammar.specs.declared.words.Word.{Word}
use Rattle.session_grammar.specs.Words.{word_of}
use Rattle.session_grammar.specs.Grammar.{may_stand, stood_before, line_taken, later_line, is_behind_events, read_words, read_one, ended, session_of}

-- the line with these words is read
abbrev pub IsRead : Option Reading → List (List ℕ) → Reading → Type 0
IsRead reading ws next = read_words reading (join_with_byte 32 ws) ws ≡ Ok next

-- they are read one after the other, and end as the script
abbrev pub ReadsTo : Option Reading → List (List (List ℕ)) → SessionScript → Type 0
ReadsTo reading ls s = text.ReadsTo IsRead ended reading ls s

pub ReadsTo-line : (reading : Option Reading) (ws : List (List ℕ)) (next : Reading) (ls : List (List (List ℕ))) (s : SessionScript) → IsRead reading ws next → ReadsTo (Some next) ls s → ReadsTo reading (ws ∷ ls) s
ReadsTo-line reading ws next ls s is rest = (next, is, rest)

-- a later line that has no fault
pub later_line-read : (r : Reading) (line : List ℕ) (w : Word) (ws : List (List ℕ)) (next : Reading) → may_stand r w ≡ true → stood_before r.told w ≡ false → line_taken r line w ws ≡ Ok next → later_line r line (Some w) ws ≡ Ok next
later_line-read r line w ws next stands new read =
    ap (λ t. if not t then Err kinds.Order else (if stood_before r.told w then Err kinds.Twice else line_taken r line w ws)) stands
    ∙ ap (λ t. if t then Err kinds.Twice else line_taken r line w ws) new
    ∙ read

-- by its words, the first of which is known
pub IsRead-known : (r : Reading) (w : List ℕ) (ws : List (List ℕ)) (v : Word) (next : Reading) → word_of (is_behind_events r.section) w ≡ Some v → later_line r (join_with_byte 32 (w ∷ ws)) (Some v) ws ≡ Ok next → IsRead (Some r) (w ∷ ws) next
IsRead-known r w ws v next known read = ap (λ o. later_line r (join_with_byte 32 (w ∷ ws)) o ws) known ∙ read

-- a line is its words with a space between each two
line_is_read : (reading : Option Reading) (l : List ℕ) (next : Reading) → IsRead reading (words_of l) next → read_one reading l ≡ Ok next
line_is_read reading l next is = ap (λ line. read_words reading line (words_of l)) (sym (join_with_byte-slice_split 32 l)) ∙ is

-- ---- a text of lines

-- no line of these is skipped
abbrev pub AreKept : List (List (List ℕ)) → Type 0
AreKept [] = Unit {0}
AreKept (l ∷ ls) = (is_skipped (join_with_byte 32 l) ≡ false) × AreKept ls

words_again : (l : List (List ℕ)) → AreClear l → is_skipped (join_with_byte 32 l) ≡ false → words_of (join_with_byte 32 l) ≡ l
words_again [] clear there = cc
words_again (w ∷ ws) clear there = words_of-joined w ws clear

pub kept_lines-text : (ls : List (List (List ℕ))) → AreClearLines ls → AreKept ls → kept_lines (map (join_with_byte 32) ls) ≡ ls
kept_lines-text [] clear kept = refl
kept_lines-text (l ∷ ls) clear kept =
    kept_lines-one (join_with_byte 32 l) (map (join_with_byte 32) ls) false kept.0
    ∙ ap (λ x. x ∷ kept_lines (map (join_with_byte 32) ls)) (words_again l clear.0 kept.0)
    ∙ ap (λ x. l ∷ x) (kept_lines-text ls clear.1 kept.1)

-- the lines of a text that was written are those that are kept
pub kept_of-text : (l : List (List ℕ)) (ls : List (List (List ℕ))) → AreClearLines (l ∷ ls) → AreKept (l ∷ ls) → kept_lines (lines_of (lines_text (l ∷ ls))) ≡ l ∷ ls
kept_of-text l ls clear kept = ap kept_lines (lines_of-text l ls clear) ∙ kept_lines-text (l ∷ ls) clear kept

-- the text is read, where the lines that are kept are
pub session_of-reads : (bytes : List ℕ) (s : SessionScript) → ReadsTo None (kept_lines (lines_of bytes)) s → session_of bytes ≡ Ok s
session_of-reads bytes s reads = ends_reads read_one ended IsRead line_is_read (lines_of bytes) None s 1 reads
