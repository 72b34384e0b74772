use Rattle.device_epochs.proofs.QueueLemmas.Places.{is_full-is}
use Rattle.device_epochs.proofs.queue.ring.CommandRing.is_full.Goals as goal

pub returns : goal.returns
returns c =
    let r = c.self.inside in
    rw (← c.self.view_is) (is_full-is r.slots.items r.first _ _ _ c.self.invariant.few c.len.ensures)
