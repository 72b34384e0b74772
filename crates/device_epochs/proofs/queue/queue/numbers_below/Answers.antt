use Rattle.std.proofs.Common.{rules}
use Rattle.device_epochs.proofs.QueueLemmas.Seats.{EachOnce-more}
use Rattle.device_epochs.proofs.queue.queue.numbers_below.Goals as goal

pub loop-slot-preserved : goal.loop-slot-preserved
loop-slot-preserved c = record {
  items = EachOnce-more _ _ _ c.loop-slot.invariant.items c.push_reserved.ensures.items;
  len = search rules;
  capacity = search rules;
}
