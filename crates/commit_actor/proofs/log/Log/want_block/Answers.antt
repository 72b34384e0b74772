use Rattle.std.proofs.Common.{refl}
use Rattle.commit_actor.proofs.Calls.{part_kept}
use Rattle.commit_actor.proofs.Logs.{log_kept, same_ring}
use Rattle.commit_actor.proofs.log.Log.want_block.Goals as goal

pub invariant_of-self : goal.invariant_of-self
invariant_of-self c =
    let l = c.self.inside in
    let i = c.self.invariant in
    log_kept l.flush c.want.new.self l.ring l.ring l.running l.journal i (part_kept l.flush c.want.new.self _ c.want.ensures refl refl i.few) (same_ring l.ring)
