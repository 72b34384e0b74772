use Rattle.std.proofs.Common.{length, sym, ap, subst, arith}
use Rattle.std.specs.Prelude.{not}
use Rattle.std.specs.VecDeque.{deque_capacity}
use Rattle.blk_base.specs.Members.{IsAscending}
use Rattle.blk_base.specs.laws.Members.{IsAscending-filter}
use Rattle.number_sets.specs.Sets.{has}
use Rattle.journal_ring.proofs.Places.{view_room, ring_commits}
use Rattle.journal_ring.proofs.Waiting.{block_of, unrevoked-fewer}
use Rattle.journal_ring.proofs.ring.Ring.commit_bodies.Goals as goal

pub put_homes-requires-clause-rising : goal.put_homes-requires-clause-rising
put_homes-requires-clause-rising c =
    subst (IsAscending block_of) (sym c.drop_homes.ensures.homes)
    (IsAscending-filter block_of (λ l. not (has c.deref.result.now l.block)) c.self.inside.homes.items c.self.invariant.rising)

pub put_homes-requires-clause-room : goal.put_homes-requires-clause-room
put_homes-requires-clause-room c =
    let fits = view_room _ c.args.self.now (length c.args.bodies.pairs.items) c.self.view_is c.requires in
    let fewer = unrevoked-fewer c.deref.result.now c.self.inside.homes.items in
    let size = ap length c.drop_homes.ensures.homes in
    let room = c.drop_homes.ensures.capacity in
    let reserved = c.self.invariant.reserved in
    omega (arith, fits, fewer, size, room, reserved)

pub invariant_of-self : goal.invariant_of-self
invariant_of-self c =
    let t = c.self.inside in
    let fits = view_room _ c.args.self.now (length c.args.bodies.pairs.items) c.self.view_is c.requires in
    let room = c.drop_homes.ensures.capacity in
    let grows = c.put_homes.ensures.capacity in
    ring_commits t.made_with t.limit (deque_capacity t.homes) t.head t.used t.homes.items c.drop_homes.new.homes.items c.put_homes.new.homes.items c.args.bodies.pairs.items c.deref.result.now (deque_capacity c.put_homes.new.homes)
    c.self.invariant fits c.drop_homes.ensures.homes c.put_homes.ensures.homes (omega (arith, room, grows))
