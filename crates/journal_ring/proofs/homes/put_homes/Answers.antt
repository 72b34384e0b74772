use Rattle.std.specs.Vec.Iter.{into_iter_items, into_iter_len}
use Rattle.std.specs.VecDeque.{deque_capacity}
use Rattle.journal_ring.proofs.Waiting.{putting_more}
use Rattle.journal_ring.proofs.homes.put_homes.Goals as goal

pub loop-body-preserved : goal.loop-body-preserved
loop-body-preserved c =
    let at = c.loop-body in
    putting_more c.args.homes.now.items c.args.bodies.items at.homes.items (into_iter_items at.body-iterator) c.in-Some.body (into_iter_items c.next.new.self) c.put_home.new.homes.items
    (deque_capacity c.args.homes.now) (into_iter_len at.body-iterator) (into_iter_len c.next.new.self) (deque_capacity at.homes) (deque_capacity c.put_home.new.homes)
    at.invariant c.in-Some.ensures.steps.0 c.in-Some.ensures.steps.1 c.put_home.ensures.homes c.put_home.ensures.capacity
