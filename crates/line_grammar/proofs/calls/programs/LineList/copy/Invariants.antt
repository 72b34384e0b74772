use Rattle.std.proofs.Common.{◌≡◌, take}
use Rattle.line_grammar.proofs.calls.programs.LineList.copy.Given as goal

abbrev pub invariant-loop-line : goal.invariant-loop-line
invariant-loop-line l = l.copy ≡ take l.line-index l.line-items
