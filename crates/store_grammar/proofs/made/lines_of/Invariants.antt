use Rattle.std.proofs.Common.{◌≡◌, ◌++◌, drop, map}
use Rattle.wal_store.specs.calls.CallText.{call_line}
use Rattle.store_grammar.proofs.made.lines_of.Given as goal

abbrev pub invariant-loop-call : goal.invariant-loop-call
invariant-loop-call l = l.lines ++ map call_line (drop l.call-index l.calls) ≡ map call_line l.calls
