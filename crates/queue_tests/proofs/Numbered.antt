-- A scheduler whose requests are numbered from 0 on takes the next one.
use Rattle.std.proofs.Common.{◌≡◌, ℕ, ◌+◌, ◌<◌, true, length, ap, sym, subst, ◌∙◌, arith}
use Rattle.std.proofs.lemmas.List.{length_push}
use Rattle.order_model.specs.declared.request.Request.{Request}
use Rattle.order_model.specs.Carrying.{SchedSeen, AreAtIds}
use Rattle.schedulers.specs.reassign.Scheduler.{SchedSteps, IsAcceptable, Accepts, IsScheduler}
use Rattle.schedulers.specs.reassign.laws.Places.{next_id-new, AreAtIds-push}
use Rattle.queue_tests.specs.Numbered.{IsNumbered, IsAsked}

pub next_acceptable : (s : SchedSeen) (count : ℕ) (r : Request) → IsNumbered s count → count < 200 → IsAsked r count → IsAcceptable s r
next_acceptable s count r n lt asked =
    let same = n.numbered in
    let limit = n.limit in
    record {
      few = omega (arith, lt, same, limit);
      new = next_id-new s.accepted r.id n.ids (asked.named ∙ same);
      barrier = asked.barrier;
      flush = asked.flush;
    }

accepts_numbered : (old new : SchedSeen) (count : ℕ) (r : Request) → IsNumbered old count → r.id ≡ count → Accepts old r new → IsNumbered new (count + 1)
accepts_numbered old new count r n named a =
    let same = n.numbered in
    let now = ap length a.accepted in
    let more = length_push old.accepted r in
    record {
      limit = a.limit ∙ n.limit;
      numbered = omega (arith, same, now, more);
      ids = subst AreAtIds (sym a.accepted) (AreAtIds-push old.accepted r n.ids (named ∙ same));
    }

pub next_numbered : {S : Type 0} (steps : SchedSteps S) (valid : S → Type 0) (old new : S) (count : ℕ) (r : Request) → IsScheduler steps valid → valid old → IsNumbered (steps.seen old) count → count < 200 → IsAsked r count → steps.can_accept old ≡ true → new ≡ steps.accepted old r
    → IsNumbered (steps.seen new) (count + 1)
next_numbered steps valid old new count r keeps v n lt asked can now =
    let a = (keeps.accepts old r v (next_acceptable (steps.seen old) count r n lt asked) can).1 in
    subst (λ s. IsNumbered (steps.seen s) (count + 1)) (sym now) (accepts_numbered (steps.seen old) (steps.seen (steps.accepted old r)) count r n asked.named a)
