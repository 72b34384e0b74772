use Rattle.std.proofs.Common.{◌≡◌, ◌+◌, ◌++◌, drop}
use Rattle.wal_store.specs.calls.Calls.{calls_from, put_count, ArePuts}
use Rattle.wal_store.proofs.calls.calls.put_ops.Given as goal

abbrev pub invariant-loop-op : goal.invariant-loop-op
invariant-loop-op l = record {
  made : l.calls ++ calls_from l.i (drop l.op-index l.ops) ≡ l.fn.calls ++ calls_from 0 l.ops;
  counted : l.i + put_count (drop l.op-index l.ops) ≡ put_count l.ops;
  puts : ArePuts (drop l.op-index l.ops);
}
