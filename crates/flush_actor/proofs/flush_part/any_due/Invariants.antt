use Rattle.flush_actor.proofs.Waiting.{LeftDecides}
use Rattle.flush_actor.specs.Steps.{is_due_in}
use Rattle.flush_actor.proofs.flush_part.any_due.Given as goal

abbrev pub invariant-loop-wait : goal.invariant-loop-wait
invariant-loop-wait l = LeftDecides (is_due_in l.submission.notes l.completed.taken) l.waits l.wait-index
