use Rattle.std.proofs.Common.{◌≡◌, ◌+◌, ◌<◌, length, vec_len, sym, subst, arith}
use Rattle.device_epochs.specs.queue.Ring.{RingState}
use Rattle.device_epochs.specs.queue.code.Places.{wrapped}
use Rattle.device_epochs.proofs.QueueLemmas.Places.{length-held, held-pushed}
use Rattle.device_epochs.proofs.queue.ring.CommandRing.push.Goals as goal

pub invariant_of-self : goal.invariant_of-self
invariant_of-self c =
    let r = c.self.inside in
    let h = c.self.invariant in
    let room = subst (λ (s : RingState). length s.held < s.capacity) (sym c.self.view_is) c.requires in
    let held = length-held r.slots.items r.first r.count in
    record {
      small = h.small;
      few = omega arith;
      within = h.within;
    }

pub returns : goal.returns
returns c =
    let r = c.self.inside in
    let h = c.self.invariant in
    let room = subst (λ (s : RingState). length s.held < s.capacity) (sym c.self.view_is) c.requires in
    let held = length-held r.slots.items r.first r.count in
    let len : vec_len r.slots ≡ length r.slots.items = r.slots.ok.0 in
    let few : r.count < length r.slots.items = omega arith in
    let within = h.within (omega arith) in
    let first : r.first < length r.slots.items = omega arith in
    let place : c.wrapped-place.result ≡ wrapped (r.first + r.count) (length r.slots.items) = rw (← len, ← c.len.ensures) c.wrapped-place.ensures in
    let is = held-pushed r.slots.items c.refill.new.self r.first r.count _ first few place in
    rw (← c.self.view_is, ← c.refill.ensures) (λ i. record { capacity = vec_len r.slots; held = is i })
