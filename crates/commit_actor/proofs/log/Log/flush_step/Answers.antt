use Rattle.commit_actor.proofs.Calls.{step_keeps}
use Rattle.commit_actor.proofs.Logs.{log_kept, same_ring}
use Rattle.commit_actor.proofs.log.Log.flush_step.Goals as goal

pub invariant_of-self : goal.invariant_of-self
invariant_of-self g c =
    let l = c.self.inside in
    let i = c.self.invariant in
    log_kept l.flush c.flush_step.new.part l.ring l.ring l.running l.journal i (step_keeps l.flush _ _ _ _ c.flush_step.ensures.step c.flush_step.ensures.blocks i.few) (same_ring l.ring)
