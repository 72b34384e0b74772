use Rattle.std.specs.Vec.Iter.{into_iter_items}
use Rattle.std.proofs.Common.{sym, ◌∙◌}
use Rattle.std.proofs.lemmas.List.{nil_from_length}
use Rattle.journal_replay.specs.Revokes.{place_of}
use Rattle.journal_replay.proofs.Fillings.{one_fewer, putting_more, all_put}
use Rattle.journal_replay.proofs.homing.put_bodies.Goals as goal

pub loop-body-preserved : goal.loop-body-preserved
loop-body-preserved c =
    let at = c.loop-body in
    let front = c.in-Some.ensures.steps.0 in
    record {
      size = one_fewer at.invariant.size front c.in-Some.ensures.steps.1;
      putting = putting_more (place_of c.args.revokes.now) c.args.at c.args.table.now.items at.table.items c.args.bodies.items (into_iter_items at.body-iterator) c.in-Some.body (into_iter_items c.next.new.self) c.put_body.new.table.items
          at.invariant.putting front c.put_body.ensures;
    }

pub returns-clause-len : goal.returns-clause-len
returns-clause-len c = c.loop-body.invariant.putting.long

pub returns-clause-bodies : goal.returns-clause-bodies
returns-clause-bodies c =
    let at = c.loop-body in
    let left = into_iter_items at.body-iterator in
    all_put (place_of c.args.revokes.now) c.args.at c.args.table.now.items at.table.items c.args.bodies.items left at.invariant.putting (nil_from_length left (sym at.invariant.size ∙ c.in-None.ensures.steps.0))
