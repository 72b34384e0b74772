use Rattle.commit_actor.proofs.Logs.{HoldsLeft}
use Rattle.commit_actor.proofs.log.hold_all.Given as goal

abbrev pub invariant-loop-body : goal.invariant-loop-body
invariant-loop-body l = HoldsLeft l.tx l.fn.flush l.flush l.bodies l.body-index
