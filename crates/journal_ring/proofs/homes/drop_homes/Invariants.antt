use Rattle.std.specs.VecDeque.{deque_capacity}
use Rattle.journal_ring.proofs.Waiting.{Dropping}
use Rattle.journal_ring.proofs.homes.drop_homes.Given as goal

abbrev pub invariant-loop-block : goal.invariant-loop-block
invariant-loop-block l = Dropping l.revoked l.fn.homes.items (deque_capacity l.fn.homes) l.homes.items l.block-index (deque_capacity l.homes)
