use Rattle.std.proofs.Common.{◌≡◌, ◌+◌, ◌≤◌, drop, filter, length}
use Rattle.device_epochs.specs.queue.Queue.{eligible, is_free}
use Rattle.device_epochs.specs.queue.code.Seats.{seated}
use Rattle.device_epochs.proofs.queue.queue.count_free.Given as goal

abbrev pub invariant-loop-v : goal.invariant-loop-v
invariant-loop-v l = record {
  told : l.count + length (filter (is_free (seated l.slots l.seats)) (seated l.slots (drop l.v-index l.seats))) ≡ length (eligible (seated l.slots l.seats));
  few : l.count ≤ l.v-index;
}
