-- The line of a script that says a call.
use Rattle.std.specs.Prelude.{ℕ, List}
use Rattle.std.specs.List.{join_with_byte}
use Rattle.tree_model.specs.declared.call.Call.{Call}
use Rattle.line_grammar.specs.calls.laws.Speller.{call_words}

-- the words of the call, with one space between each two
abbrev pub call_line : Call → List ℕ
call_line c = join_with_byte 32 (call_words c)
