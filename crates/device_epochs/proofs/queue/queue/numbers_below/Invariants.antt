use Rattle.std.proofs.Common.{◌≡◌, [], vec_len, vec_capacity}
use Rattle.device_epochs.specs.queue.code.Seats.{EachOnce}
use Rattle.device_epochs.proofs.queue.queue.numbers_below.Given as goal

abbrev pub invariant-loop-slot : goal.invariant-loop-slot
invariant-loop-slot l = record {
  items : EachOnce l.slot [] l.numbers.items;
  len : vec_len l.numbers ≡ l.slot;
  capacity : vec_capacity l.numbers ≡ l.depth;
}
