use Rattle.std.specs.Vec.Iter.{into_iter_items}
use Rattle.journal_replay.proofs.Fillings.{one_fewer, collecting_more}
use Rattle.journal_replay.proofs.homing.collect.Goals as goal

pub loop-slot-preserved : goal.loop-slot-preserved
loop-slot-preserved c =
    let at = c.loop-slot in
    let front = c.in-Some.ensures.steps.0 in
    record {
      size = one_fewer at.invariant.size front c.in-Some.ensures.steps.1;
      collecting = collecting_more c.args.table.items (into_iter_items at.slot-iterator) at.block at.homes.items c.in-Some.slot (into_iter_items c.next.new.self) c.push_home.new.homes.items
          at.invariant.collecting front c.in_ok-push_home.ensures;
    }
