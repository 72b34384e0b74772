use Rattle.std.proofs.Common.{◌≡◌, ◌++◌}
use Rattle.wal_store.specs.calls.Calls.{fills_from}
use Rattle.wal_store.proofs.calls.calls.put_fills.Given as goal

abbrev pub invariant-loop-j : goal.invariant-loop-j
invariant-loop-j l = l.calls ≡ l.fn.calls ++ fills_from l.room 0 l.j
