use Rattle.std.proofs.Common.{sym, ◌∙◌, arith}
use Rattle.device_epochs.proofs.QueueLemmas.Moves.{seats-in_slots, picked-is, EachOnce-taken, seated-departed, AreNumbered-departed}
use Rattle.device_epochs.proofs.queue.queue.CommandQueue.leave.Goals as goal

pub find_free-requires : goal.find_free-requires
find_free-requires c =
    let q = c.self.inside in
    seats-in_slots _ _ _ _ _ _ c.deref.ensures.value c.deref-2.ensures.value (sym q.slots.ok.0 ∙ c.self.invariant.slots) c.self.invariant.apart

pub invariant_of-self : goal.invariant_of-self
invariant_of-self c =
    let q = c.self.inside in
    let h = c.self.invariant in
    let lt = rw c.deref-2.ensures.value at c.in-Some.ensures.within in
    record {
      some = h.some;
      few = h.few;
      slots = h.slots;
      all = omega (arith, h.all, c.remove-seat.ensures.len, c.push_reserved.ensures.len);
      room_seats = omega (arith, h.room_seats, c.remove-seat.ensures.capacity);
      room_free = omega (arith, h.room_free, c.push_reserved.ensures.capacity);
      apart = EachOnce-taken _ _ _ _ _ _ _ h.apart lt c.remove-seat.ensures.value c.remove-seat.ensures.items c.push_reserved.ensures.items;
      numbered = AreNumbered-departed _ _ _ _ _ h.numbered c.remove-seat.ensures.items;
    }

pub returns : goal.returns
returns c =
    let q = c.self.inside in
    let h = c.self.invariant in
    let lt = rw c.deref-2.ensures.value at c.in-Some.ensures.within in
    let is = seated-departed _ _ _ _ _ _ h.numbered lt c.remove-seat.ensures.value c.remove-seat.ensures.items in
    let picked = picked-is _ _ _ _ _ _ c.remove-seat.result c.in-Some.ensures c.deref.ensures.value c.deref-2.ensures.value c.remove-seat.ensures.value in
    rw (← c.self.view_is, picked) (λ i. record { depth = q.depth; next = q.next; waiting = is i })
