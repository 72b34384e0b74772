use Rattle.std.proofs.Common.{◌≡◌, drop, filter, slice_get}
use Rattle.schedulers.specs.reassign.Epoch.{eligible, may_leave}
use Rattle.schedulers.proofs.reassign.queue.find_eligible.Given as goal

abbrev pub invariant-loop-i : goal.invariant-loop-i
invariant-loop-i l =
    slice_get (eligible l.waiting.items) l.pick ≡ slice_get (filter (may_leave l.waiting.items) (drop l.i l.waiting.items)) l.left
