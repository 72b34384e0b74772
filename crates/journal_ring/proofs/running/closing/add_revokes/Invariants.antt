use Rattle.std.proofs.Common.{◌≡◌, ◌++◌, length, map}
use Rattle.journal_ring.specs.running.Closing.{writers}
use Rattle.journal_ring.specs.running.Plan.{chunks, revoke_block}
use Rattle.journal_ring.proofs.running.closing.add_revokes.Given as goal

abbrev pub invariant-loop-rest : goal.invariant-loop-rest
invariant-loop-rest l =
    l.pieces ++ map (revoke_block (writers l.stamp.made_with) l.stamp.tx l.stamp.sequence) (chunks (writers l.stamp.made_with).most_revokes l.rest)
    ≡ l.fn.pieces ++ map (revoke_block (writers l.stamp.made_with) l.stamp.tx l.stamp.sequence) (chunks (writers l.stamp.made_with).most_revokes l.revoked)

abbrev pub decreases-loop-rest : goal.decreases-loop-rest
decreases-loop-rest l = length l.rest
