use Rattle.std.specs.Vec.Iter.{into_iter_items, into_iter_len}
use Rattle.std.specs.VecDeque.{deque_capacity}
use Rattle.journal_ring.proofs.Waiting.{Putting}
use Rattle.journal_ring.proofs.homes.put_homes.Given as goal

abbrev pub invariant-loop-body : goal.invariant-loop-body
invariant-loop-body l =
    Putting l.fn.homes.items l.fn.bodies.items (deque_capacity l.fn.homes) l.homes.items (into_iter_items l.body-iterator) (into_iter_len l.body-iterator) (deque_capacity l.homes)
