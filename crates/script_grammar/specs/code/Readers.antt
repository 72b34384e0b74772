-- What the reader's results say of the grammar. Want of memory says nothing.
use Rattle.std.specs.Prelude.{◌≡◌, ℕ, Result, Ok, Err}
use Rattle.script_grammar.specs.declared.kinds.ScriptKind.{ScriptKind}
use Rattle.script_grammar.specs.declared.script_error.LineError.{LineError}
use Rattle.script_grammar.specs.declared.script_error.LineError.TheVariants as line
use Rattle.script_grammar.specs.declared.script_error.ScriptError.{ScriptError}
use Rattle.script_grammar.specs.declared.script_error.ScriptError.TheVariants as script

-- a line was read as the grammar reads it
abbrev pub IsReadAs : {A : Type 0} → Result A LineError → Result A ScriptKind → Type 0
IsReadAs (Ok x) read = read ≡ Ok x
IsReadAs (Err (line.Kind kind)) read = read ≡ Err kind
IsReadAs (Err line.NoMemory) read = Unit {0}

-- lines were read as the grammar reads them
abbrev pub IsTextReadAs : {A : Type 0} → Result A ScriptError → Result A (ℕ × ScriptKind) → Type 0
IsTextReadAs (Ok x) read = read ≡ Ok x
IsTextReadAs (Err (script.Fault n kind)) read = read ≡ Err (n, kind)
IsTextReadAs (Err script.NoMemory) read = Unit {0}

-- a line's fault, with the number of the line
abbrev pub fault_at : ℕ → LineError → ScriptError
fault_at n (line.Kind kind) = script.Fault n kind
fault_at n line.NoMemory = script.NoMemory
