-- What a reader's results say of its words. Want of memory says nothing.
use Rattle.std.specs.Prelude.{◌≡◌, Result, Ok, Err}
use Rattle.script_words.specs.declared.line_error.LineFault.{LineFault}
use Rattle.script_words.specs.declared.line_error.WordsError.{WordsError}
use Rattle.script_words.specs.declared.line_error.WordsError.TheVariants as errors

-- words were read as they are defined to be
abbrev pub IsReadAs : {A : Type 0} → Result A WordsError → Result A LineFault → Type 0
IsReadAs (Ok x) read = read ≡ Ok x
IsReadAs (Err (errors.Fault fault)) read = read ≡ Err fault
IsReadAs (Err errors.NoMemory) read = Unit {0}
