-- Errors of words as errors of their line.
use Rattle.script_words.specs.declared.line_error.WordsError.{WordsError}
use Rattle.script_words.specs.declared.line_error.WordsError.TheVariants as errors
use Rattle.script_grammar.specs.declared.script_error.LineError.{LineError}
use Rattle.script_grammar.specs.declared.script_error.LineError.TheVariants as line
use Rattle.session_grammar.specs.Grammar.{kind_of}

abbrev pub line_error : WordsError → LineError
line_error (errors.Fault fault) = line.Kind (kind_of fault)
line_error errors.NoMemory = line.NoMemory
