use Rattle.std.proofs.Common.{◌<◌, length, sym, ◌∙◌, arith}
use Rattle.device_epochs.proofs.QueueLemmas.Moves.{seats-in_slots, seat-within, picked-command}
use Rattle.device_epochs.proofs.queue.queue.CommandQueue.peek.Goals as goal

pub find_free-requires : goal.find_free-requires
find_free-requires c =
    let q = c.self.inside in
    seats-in_slots _ _ _ _ _ _ c.deref.ensures.value c.deref-2.ensures.value (sym q.slots.ok.0 ∙ c.self.invariant.slots) c.self.invariant.apart

pub index-requires-2 : goal.index-requires-2
index-requires-2 c =
    let q = c.self.inside in
    let lt = rw c.deref-2.ensures.value at c.in_ok-at.ensures.within in
    let within = seat-within _ _ _ _ _ c.self.invariant.apart lt c.index.ensures in
    omega (arith, c.self.invariant.slots)

pub returns : goal.returns
returns c =
    let q = c.self.inside in
    let lt = rw c.deref-2.ensures.value at c.in_ok-at.ensures.within in
    let seat = seat-within _ _ _ _ _ c.self.invariant.apart lt c.index.ensures in
    let within : c.index.result.now.slot < length q.slots.items = omega (arith, c.self.invariant.slots, q.slots.ok.0) in
    rw (← c.self.view_is) (picked-command _ _ _ _ _ _ c.index.result.now _ c.in_ok-at.ensures c.deref.ensures.value c.deref-2.ensures.value c.index.ensures within c.index-2.ensures)
