use Rattle.std.proofs.Common.{◌<◌, length, sym, subst}
use Rattle.flush_actor.proofs.Waiting.{needs_commit}
use Rattle.flush_actor.specs.Actor.{FlushActor}
use Rattle.flush_actor.specs.code.Fields.{NeedsSubmitted}
use Rattle.flush_actor.proofs.flush_part.FlushPart.note_commit.Goals as goal

pub invariant_of-self : goal.invariant_of-self
invariant_of-self c =
    let f = c.self.inside in
    let i = c.self.invariant in
    record {
      paired = i.paired;
      few = i.few;
      short = i.short;
      known = i.known;
      held = i.held;
      needs = subst (NeedsSubmitted f.submission.requests) (sym c.note_commit.ensures)
          (needs_commit f.submission.requests f.waits.items c.args.tx c.args.id (subst (λ (x : FlushActor). c.args.id < length x.part.requests) (sym c.self.view_is) c.requires) i.needs);
    }
