use Rattle.std.proofs.Common.{◌<◌, length, sym, ◌∙◌, arith}
use Rattle.device_epochs.proofs.QueueLemmas.Moves.{seats-in_slots, seat-within, picked-is, picked-command, EachOnce-taken, seated-taken, AreNumbered-taken}
use Rattle.device_epochs.proofs.queue.queue.CommandQueue.take.Goals as goal

pub find_free-requires : goal.find_free-requires
find_free-requires c =
    let q = c.self.inside in
    seats-in_slots _ _ _ _ _ _ c.deref.ensures.value c.deref-2.ensures.value (sym q.slots.ok.0 ∙ c.self.invariant.slots) c.self.invariant.apart

pub index_mut-requires : goal.index_mut-requires
index_mut-requires c =
    let lt = rw c.deref-2.ensures.value at c.in_ok-at.ensures.within in
    let within = seat-within _ _ _ _ _ c.self.invariant.apart lt c.remove-seat.ensures.value in
    omega (arith, c.self.invariant.slots)

pub invariant_of-self : goal.invariant_of-self
invariant_of-self c =
    let q = c.self.inside in
    let h = c.self.invariant in
    let lt = rw c.deref-2.ensures.value at c.in_ok-at.ensures.within in
    record {
      some = h.some;
      few = h.few;
      slots = h.slots;
      all = omega (arith, h.all, c.remove-seat.ensures.len, c.push_reserved.ensures.len);
      room_seats = omega (arith, h.room_seats, c.remove-seat.ensures.capacity);
      room_free = omega (arith, h.room_free, c.push_reserved.ensures.capacity);
      apart = EachOnce-taken _ _ _ _ _ _ _ h.apart lt c.remove-seat.ensures.value c.remove-seat.ensures.items c.push_reserved.ensures.items;
      numbered = AreNumbered-taken _ _ _ _ _ _ _ _ _ h.numbered h.apart lt c.remove-seat.ensures.value c.remove-seat.ensures.items;
    }

pub returns-clause-command : goal.returns-clause-command
returns-clause-command c =
    let q = c.self.inside in
    let lt = rw c.deref-2.ensures.value at c.in_ok-at.ensures.within in
    let seat = seat-within _ _ _ _ _ c.self.invariant.apart lt c.remove-seat.ensures.value in
    let within : c.remove-seat.result.slot < length q.slots.items = omega (arith, c.self.invariant.slots, q.slots.ok.0) in
    let command = picked-command _ _ _ _ _ _ c.remove-seat.result _ c.in_ok-at.ensures c.deref.ensures.value c.deref-2.ensures.value c.remove-seat.ensures.value within c.index_mut.ensures.value in
    rw (← c.self.view_is, c.replace.ensures.value) command

pub returns-clause-state : goal.returns-clause-state
returns-clause-state c =
    let q = c.self.inside in
    let h = c.self.invariant in
    let lt = rw c.deref-2.ensures.value at c.in_ok-at.ensures.within in
    let is = seated-taken _ _ _ c.replace.new.dest _ _ _ _ _ h.numbered h.apart lt c.remove-seat.ensures.value c.remove-seat.ensures.items in
    let picked = picked-is _ _ _ _ _ _ c.remove-seat.result c.in_ok-at.ensures c.deref.ensures.value c.deref-2.ensures.value c.remove-seat.ensures.value in
    rw (← c.self.view_is, picked) (λ i. record { depth = q.depth; next = q.next; waiting = is i })
