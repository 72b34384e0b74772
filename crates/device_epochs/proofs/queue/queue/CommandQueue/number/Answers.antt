use Rattle.std.proofs.Common.{sym, ◌∙◌}
use Rattle.device_epochs.proofs.QueueLemmas.Moves.{seats-in_slots}
use Rattle.device_epochs.proofs.queue.queue.CommandQueue.number.Goals as goal

pub find_free-requires : goal.find_free-requires
find_free-requires c =
    let q = c.self.inside in
    seats-in_slots _ _ _ _ _ _ c.deref.ensures.value c.deref-2.ensures.value (sym q.slots.ok.0 ∙ c.self.invariant.slots) c.self.invariant.apart
