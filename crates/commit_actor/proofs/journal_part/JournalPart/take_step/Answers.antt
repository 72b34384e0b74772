use Rattle.std.proofs.Common.{ap}
use Rattle.commit_actor.proofs.Calls.{phase_kept, take_more}
use Rattle.commit_actor.specs.Actor.{LogState}
use Rattle.flush_actor.specs.Outcomes.{first_since}
use Rattle.commit_actor.proofs.journal_part.JournalPart.take_step.Goals as goal

pub invariant_of-self : goal.invariant_of-self
invariant_of-self g c =
    let j = c.self.inside in
    let same = c.take_step.ensures.same in
    phase_kept j.log c.take_step.new.self j.phase (ap (λ (l : LogState). l.running.number) same) (ap (λ (l : LogState). l.ring) same) (take_more j.log.flush c.take_step.new.self.flush c.take_step.result (first_since (g.I.Inlet.taken c.args.from.now) (g.I.Inlet.taken c.take_step.new.from)) c.take_step.ensures.step) c.self.invariant
