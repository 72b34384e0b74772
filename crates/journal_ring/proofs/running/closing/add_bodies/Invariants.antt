use Rattle.std.proofs.Common.{◌≡◌, ◌++◌, length}
use Rattle.journal_ring.specs.running.Closing.{writers}
use Rattle.journal_ring.specs.running.Plan.{chunks, all_described}
use Rattle.journal_ring.proofs.running.closing.add_bodies.Given as goal

abbrev pub invariant-loop-rest : goal.invariant-loop-rest
invariant-loop-rest l =
    l.pieces ++ all_described (writers l.stamp.made_with) l.stamp.tx l.stamp.sequence (chunks (writers l.stamp.made_with).most_tags l.rest)
    ≡ l.fn.pieces ++ all_described (writers l.stamp.made_with) l.stamp.tx l.stamp.sequence (chunks (writers l.stamp.made_with).most_tags l.bodies)

abbrev pub decreases-loop-rest : goal.decreases-loop-rest
decreases-loop-rest l = length l.rest
