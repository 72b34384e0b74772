use Rattle.std.proofs.Common.{ap}
use Rattle.commit_actor.proofs.Calls.{phase_kept, step_more}
use Rattle.commit_actor.specs.Actor.{LogState}
use Rattle.flush_actor.specs.Outcomes.{is_queue_full, first_since}
use Rattle.commit_actor.proofs.journal_part.JournalPart.flush_step.Goals as goal

pub invariant_of-self : goal.invariant_of-self
invariant_of-self g c =
    let j = c.self.inside in
    let same = c.flush_step.ensures.same in
    phase_kept j.log c.flush_step.new.self j.phase (ap (λ (l : LogState). l.running.number) same) (ap (λ (l : LogState). l.ring) same) (step_more j.log.flush c.flush_step.new.self.flush c.flush_step.result (is_queue_full c.flush_step.result) (first_since (g.I.Inlet.taken c.args.from.now) (g.I.Inlet.taken c.flush_step.new.from)) c.flush_step.ensures.step) c.self.invariant
