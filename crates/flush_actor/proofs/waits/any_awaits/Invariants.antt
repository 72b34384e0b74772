use Rattle.flush_actor.proofs.Waiting.{LeftDecides}
use Rattle.flush_actor.specs.Waits.{awaits}
use Rattle.flush_actor.proofs.waits.any_awaits.Given as goal

abbrev pub invariant-loop-wait : goal.invariant-loop-wait
invariant-loop-wait l = LeftDecides (awaits l.tx) l.waits l.wait-index
