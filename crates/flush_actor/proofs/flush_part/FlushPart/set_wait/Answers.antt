use Rattle.std.proofs.Common.{◌≡◌, ◌<◌, ℕ, length, sym, subst, Some}
use Rattle.flush_actor.proofs.Waiting.{needs_set}
use Rattle.flush_actor.specs.Actor.{FlushActor}
use Rattle.flush_actor.proofs.flush_part.FlushPart.set_wait.Goals as goal

pub invariant_of-self : goal.invariant_of-self
invariant_of-self c =
    let f = c.self.inside in
    let i = c.self.invariant in
    record {
      paired = i.paired;
      few = i.few;
      short = i.short;
      known = i.known;
      held = i.held;
      needs = needs_set f.submission.requests f.waits.items c.args.thread c.args.wait i.needs
          (subst (λ (x : FlushActor). (id : ℕ) → c.args.wait.need ≡ Some id → id < length x.part.requests) (sym c.self.view_is) c.requires.need);
    }
