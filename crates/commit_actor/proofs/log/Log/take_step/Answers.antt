use Rattle.commit_actor.proofs.Calls.{take_keeps}
use Rattle.commit_actor.proofs.Logs.{log_kept, same_ring}
use Rattle.commit_actor.proofs.log.Log.take_step.Goals as goal

pub invariant_of-self : goal.invariant_of-self
invariant_of-self g c =
    let l = c.self.inside in
    let i = c.self.invariant in
    log_kept l.flush c.take_step.new.part l.ring l.ring l.running l.journal i (take_keeps l.flush _ _ _ c.take_step.ensures.step c.take_step.ensures.blocks i.few) (same_ring l.ring)
