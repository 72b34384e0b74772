use Rattle.std.proofs.Common.{length, refl, ap, sym, ◌∙◌, arith}
use Rattle.std.proofs.lemmas.Bool.{eqb-false}
use Rattle.schedulers.specs.reassign.Epoch.{is_full}
use Rattle.order_model.specs.laws.ArrivalLaws.{AreNumbered-push}
use Rattle.schedulers.proofs.reassign.queue.EpochQueue.accept.Goals as goal

pub invariant_of-self : goal.invariant_of-self
invariant_of-self c =
    let q = c.self.inside in
    let h = c.self.invariant in
    let room = eqb-false (length q.waiting.items) q.capacity (ap is_full c.self.view_is ∙ (sym c.is_full.ensures ∙ c.if-is_full.false)) in
    record {
      small = h.small;
      few = omega (arith, room, h.few, q.waiting.ok.0, c.push_back_reserved.ensures.len);
      room = omega (arith, h.room, c.push_back_reserved.ensures.capacity);
      numbered = rw c.push_back_reserved.ensures.items (AreNumbered-push _ _ _ _ h.numbered refl);
    }
