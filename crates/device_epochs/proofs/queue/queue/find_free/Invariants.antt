use Rattle.std.proofs.Common.{◌≡◌, drop, filter, slice_get}
use Rattle.device_epochs.specs.queue.Queue.{eligible, is_free}
use Rattle.device_epochs.specs.queue.code.Seats.{seated}
use Rattle.device_epochs.proofs.queue.queue.find_free.Given as goal

abbrev pub invariant-loop-i : goal.invariant-loop-i
invariant-loop-i l =
    slice_get (eligible (seated l.slots l.seats)) l.pick ≡ slice_get (filter (is_free (seated l.slots l.seats)) (seated l.slots (drop l.i l.seats))) l.left
