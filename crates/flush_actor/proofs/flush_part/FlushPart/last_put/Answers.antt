use Rattle.std.proofs.Common.{length, sym, ap, ◌∙◌}
use Rattle.flush_actor.proofs.Notes.{last_of}
use Rattle.flush_actor.specs.Actor.{FlushActor}
use Rattle.flush_actor.proofs.flush_part.FlushPart.last_put.Goals as goal

pub returns-clause-within : goal.returns-clause-within
returns-clause-within c =
    let s = c.self.inside.submission in
    last_of c.last_put.result s.notes _ c.last_put.ensures (sym c.self.invariant.paired ∙ ap (λ (x : FlushActor). length x.part.requests) c.self.view_is)
