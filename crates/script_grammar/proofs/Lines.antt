-- A line that the reader stops at.
use Rattle.std.proofs.Common.{ℕ, ◌<◌, List, length, get_or, drop, map, Option, Result, Err}
use Rattle.script_words.specs.LineByLine.{line_read, lines_read}
use Rattle.script_words.proofs.LineByLine.{stops}
use Rattle.script_grammar.specs.declared.kinds.ScriptKind.{ScriptKind}
use Rattle.script_grammar.specs.declared.script_error.ScriptError.{ScriptError}
use Rattle.script_grammar.specs.declared.script_error.ScriptError.TheVariants as script
use Rattle.script_grammar.specs.code.Readers.{IsTextReadAs}

pub IsTextReadAs-stops : {X R S : Type 0} (read : Option R → List ℕ → Result R ScriptKind) (ended : ℕ → Option R → Result S (ℕ × ScriptKind)) (f : X → List ℕ) (xs : List X) (i n : ℕ) (d : X) (reading : Option R) (fault : ScriptError) → i < length xs → IsTextReadAs {A = Option R} (Err fault) (line_read read n reading (f (get_or xs i d))) → IsTextReadAs {A = S} (Err fault) (lines_read read ended n reading (map f (drop i xs)))
IsTextReadAs-stops read ended f xs i n d reading (script.Fault m kind) lt h = stops read ended f xs i n d reading (m, kind) lt h
IsTextReadAs-stops read ended f xs i n d reading script.NoMemory lt h = tt
