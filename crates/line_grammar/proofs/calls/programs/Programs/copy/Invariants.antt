use Rattle.std.proofs.Common.{◌≡◌, take}
use Rattle.line_grammar.proofs.calls.programs.Programs.copy.Given as goal

abbrev pub invariant-loop-thread : goal.invariant-loop-thread
invariant-loop-thread l = l.copy ≡ take l.thread-index l.thread-items
