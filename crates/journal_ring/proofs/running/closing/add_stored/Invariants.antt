use Rattle.journal_ring.proofs.RunningLemmas.Adding.{Adding}
use Rattle.journal_ring.specs.running.Closing.{writers}
use Rattle.journal_ring.specs.running.Plan.{body_block}
use Rattle.journal_ring.proofs.running.closing.add_stored.Given as goal

abbrev pub invariant-loop-body : goal.invariant-loop-body
invariant-loop-body l = Adding (body_block (writers l.stamp.made_with) l.stamp.tx l.stamp.sequence) l.fn.pieces l.bodies l.pieces l.body-index
