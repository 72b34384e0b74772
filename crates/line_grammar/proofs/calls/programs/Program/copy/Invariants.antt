use Rattle.std.proofs.Common.{◌≡◌, take}
use Rattle.line_grammar.proofs.calls.programs.Program.copy.Given as goal

abbrev pub invariant-loop-call : goal.invariant-loop-call
invariant-loop-call l = l.copy ≡ take l.call-index l.call-items
