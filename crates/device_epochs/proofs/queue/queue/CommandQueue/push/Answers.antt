use Rattle.std.proofs.Common.{◌+◌, sym, ◌∙◌, arith}
use Rattle.device_epochs.proofs.QueueLemmas.Moves.{slot-within, EachOnce-received, seated-received, AreNumbered-received}
use Rattle.device_epochs.proofs.queue.queue.CommandQueue.push.Goals as goal

pub index_mut-requires : goal.index_mut-requires
index_mut-requires c =
    let within = slot-within _ _ _ _ _ c.self.invariant.apart c.in-Some.ensures.items in
    omega (arith, c.self.invariant.slots)

pub invariant_of-self : goal.invariant_of-self
invariant_of-self c =
    let q = c.self.inside in
    let h = c.self.invariant in
    let is = seated-received _ q.next _ c.refill.new.self _ _ _ _ _ h.apart c.in-Some.ensures.items (sym q.slots.ok.0 ∙ h.slots) c.push_reserved.ensures.items in
    record {
      some = h.some;
      few = h.few;
      slots = h.slots;
      all = omega (arith, h.all, c.in-Some.ensures.len, c.push_reserved.ensures.len);
      room_seats = omega (arith, h.room_seats, c.push_reserved.ensures.capacity);
      room_free = omega (arith, h.room_free, c.in-Some.ensures.capacity);
      apart = EachOnce-received _ q.next _ _ _ _ _ h.apart c.in-Some.ensures.items c.push_reserved.ensures.items;
      numbered = AreNumbered-received q.next c.refill.new.self _ _ _ _ h.numbered is;
    }

pub returns : goal.returns
returns c =
    let q = c.self.inside in
    let h = c.self.invariant in
    let is = seated-received _ q.next _ c.refill.new.self _ _ _ _ _ h.apart c.in-Some.ensures.items (sym q.slots.ok.0 ∙ h.slots) c.push_reserved.ensures.items in
    rw (← c.self.view_is, ← c.refill.ensures) (λ i. record { depth = q.depth; next = q.next + 1; waiting = is i })
