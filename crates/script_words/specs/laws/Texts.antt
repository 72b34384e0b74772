-- How lines of words are written as a text.
use Rattle.std.specs.Prelude.{ℕ, ◌++◌, ◌==◌, ◌&&◌, Bool, true, not, List, [], ◌∷◌, map}
use Rattle.std.specs.List.{join_with_byte, list_all, filter}
use Rattle.script_words.specs.Spelling.{words_of, is_skipped}

-- words with one space between each two, and a line feed at the end
abbrev pub line_text : List (List ℕ) → List ℕ
line_text ws = join_with_byte 32 ws ++ 10 ∷ []

unfoldable pub lines_text : List (List (List ℕ)) → List ℕ
lines_text [] = []
lines_text (ws ∷ ls) = line_text ws ++ lines_text ls

-- no word of the line has a space or a line feed
abbrev pub are_clear : List (List ℕ) → Bool
are_clear ws = list_all (λ w. list_all (λ b. not (b == 32) && not (b == 10)) w) ws

-- the lines that are not skipped, each as its words
abbrev pub kept_lines : List (List ℕ) → List (List (List ℕ))
kept_lines lines = map words_of (filter (λ l. not (is_skipped l)) lines)
