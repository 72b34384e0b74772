use Rattle.commit_actor.proofs.Logs.{submit_keeps, log_kept, same_ring}
use Rattle.commit_actor.proofs.log.Log.submit.Goals as goal

pub invariant_of-self : goal.invariant_of-self
invariant_of-self g c =
    let l = c.self.inside in
    let i = c.self.invariant in
    log_kept l.flush c.submit.new.self l.ring l.ring l.running l.journal i (submit_keeps l.flush _ _ _ _ _ c.submit.ensures.turn c.submit.ensures.part i.few) (same_ring l.ring)
