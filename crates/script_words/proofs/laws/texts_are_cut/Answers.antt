use Rattle.std.proofs.Common.{◌∷◌}
use Rattle.std.proofs.lemmas.List.Splits.{join_with_byte-slice_split}
use Rattle.script_words.proofs.Clear.{AreClear-are_clear, AreClearLines-are_clear}
use Rattle.script_words.proofs.SpelledWords.{lines_of-text, words_of-joined}
use Rattle.script_words.proofs.laws.texts_are_cut.Goals as goal

pub returns-clause-lines : goal.returns-clause-lines
returns-clause-lines c = λ l ls h. lines_of-text l ls (AreClearLines-are_clear (l ∷ ls) h)

pub returns-clause-words : goal.returns-clause-words
returns-clause-words c = λ w ws h. words_of-joined w ws (AreClear-are_clear (w ∷ ws) h)

pub returns-clause-joined : goal.returns-clause-joined
returns-clause-joined c = λ line. join_with_byte-slice_split 32 line
