-- The request at a place leaves.
use Rattle.std.proofs.Common.{refl, Some, ap, ◌∙◌, arith}
use Rattle.schedulers.specs.reassign.Epoch.{EpochState, Waiting}
use Rattle.schedulers.proofs.ReassignLemmas.Leaving.{flagged_of, leaving-is, departed-is}
use Rattle.order_model.specs.laws.ArrivalLaws.{AreNumbered-remove}
use Rattle.schedulers.proofs.reassign.queue.EpochQueue.leave_at.Goals as goal

pub invariant_of-self-2 : goal.invariant_of-self-2
invariant_of-self-2 c =
    let h = c.self.invariant in
    record {
      small = h.small;
      few = omega (arith, h.few, c.in_ok-request.ensures.len);
      room = omega (arith, h.room, c.in_ok-request.ensures.capacity);
      numbered = rw c.in_ok-request.ensures.items (AreNumbered-remove _ _ _ _ h.numbered);
    }

pub returns-clause-given : goal.returns-clause-given
returns-clause-given c =
    let q = c.self.inside in
    let s : EpochState = record { capacity = q.capacity; next = q.next; waiting = q.waiting.items; closing = q.closing } in
    let told = c.leaves_flagged-flagged.ensures ∙ ap (λ (w : Waiting). flagged_of q.closing w c.remove.new.self.items) c.request.view_is in
    rw (← c.self.view_is)
    (ap (λ (w : Waiting). Some (w.request, c.leaves_flagged-flagged.result)) c.request.view_is
    ∙ leaving-is s _ _ _ _ c.self.invariant.numbered (omega (arith, c.in_ok-request.ensures.variant.0 refl, q.waiting.ok.0)) c.in_ok-request.ensures.value c.in_ok-request.ensures.items told)

pub returns-clause-state : goal.returns-clause-state
returns-clause-state c =
    let q = c.self.inside in
    let s : EpochState = record { capacity = q.capacity; next = q.next; waiting = q.waiting.items; closing = q.closing } in
    let told = c.leaves_flagged-flagged.ensures ∙ ap (λ (w : Waiting). flagged_of q.closing w c.remove.new.self.items) c.request.view_is in
    rw (← c.self.view_is)
    (departed-is s _ _ _ _ _ c.self.invariant.numbered (omega (arith, c.in_ok-request.ensures.variant.0 refl, q.waiting.ok.0)) c.in_ok-request.ensures.value c.in_ok-request.ensures.items told c.closing_after-self-inside.ensures)
