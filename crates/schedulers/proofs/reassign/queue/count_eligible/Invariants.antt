use Rattle.std.proofs.Common.{◌≡◌, ◌+◌, ◌≤◌, drop, filter, length}
use Rattle.schedulers.specs.reassign.Epoch.{eligible, may_leave}
use Rattle.schedulers.proofs.reassign.queue.count_eligible.Given as goal

abbrev pub invariant-loop-i : goal.invariant-loop-i
invariant-loop-i l = record {
  told : l.count + length (filter (may_leave l.waiting.items) (drop l.i l.waiting.items)) ≡ length (eligible l.waiting.items);
  few : l.count ≤ l.i;
}
