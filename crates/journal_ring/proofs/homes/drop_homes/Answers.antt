use Rattle.std.proofs.Common.{length, ◌≤◌, arith}
use Rattle.std.specs.VecDeque.{deque_capacity}
use Rattle.journal_ring.proofs.Waiting.{dropping_more, dropped_all}
use Rattle.journal_ring.proofs.homes.drop_homes.Goals as goal

pub loop-block-preserved : goal.loop-block-preserved
loop-block-preserved c =
    let at = c.loop-block in
    dropping_more c.args.revoked.now c.args.homes.now.items at.homes.items c.drop_home.new.homes.items (deque_capacity c.args.homes.now) at.block-index (deque_capacity at.homes) (deque_capacity c.drop_home.new.homes) 0
    at.invariant c.loop-block-test.true c.drop_home.ensures.homes c.drop_home.ensures.capacity

pub returns-clause-homes : goal.returns-clause-homes
returns-clause-homes c =
    let at = c.loop-block in
    let past : length c.args.revoked.now ≤ at.block-index = (let no = c.loop-block-test.false in let end = at.auto.block-index-end in omega arith) in
    dropped_all c.args.revoked.now c.args.homes.now.items at.homes.items (deque_capacity c.args.homes.now) at.block-index (deque_capacity at.homes) at.invariant past
