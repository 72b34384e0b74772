use Rattle.flush_actor.proofs.Waiting.{needs_known}
use Rattle.flush_actor.proofs.flush_part.FlushPart.flush_due.Goals as goal

pub any_due-requires : goal.any_due-requires
any_due-requires c =
    let f = c.self.inside in
    let i = c.self.invariant in
    needs_known f.submission.requests f.waits.items c.deref.result.now f.submission.limit f.completed.known c.deref.ensures.value i.few i.known i.needs
