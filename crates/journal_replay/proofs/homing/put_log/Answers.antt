use Rattle.std.specs.Vec.Iter.{into_iter_items}
use Rattle.journal_replay.specs.Revokes.{place_of}
use Rattle.journal_replay.proofs.Fillings.{one_fewer, replaying_more}
use Rattle.journal_replay.proofs.homing.put_log.Goals as goal

pub loop-transaction-preserved : goal.loop-transaction-preserved
loop-transaction-preserved c =
    let at = c.loop-transaction in
    let front = c.in-Some.ensures.steps.0 in
    record {
      size = one_fewer at.invariant.size front c.in-Some.ensures.steps.1;
      replaying = replaying_more (place_of c.args.revokes.now) c.args.table.now.items at.table.items c.args.log.items (into_iter_items at.transaction-iterator) at.at c.in-Some.transaction (into_iter_items c.next.new.self) c.put_bodies.new.table.items
          at.invariant.replaying front c.put_bodies.ensures.len c.put_bodies.ensures.bodies;
    }
