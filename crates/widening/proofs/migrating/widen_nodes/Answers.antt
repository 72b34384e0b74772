use Rattle.widening.specs.code.Steps.{FitEntry}
use Rattle.widening.proofs.Fitting.{all_first}
use Rattle.widening.proofs.RoomSteps.{nodes_next}
use Rattle.widening.proofs.migrating.widen_nodes.Goals as goal

pub loop-birth-preserved : goal.loop-birth-preserved
loop-birth-preserved c = (
  nodes_next c.args.g.now c.args.disk.now c.loop-birth.birth-iterator c.next.new.self c.in-Some.birth.now c.in-Some.node.now (record { image = c.loop-birth.image; free = c.loop-birth.free }) (record { image = c.widen_node.new.image; free = c.widen_node.new.free }) _
      c.in-Some.ensures.steps c.in_ok-widen_node.ensures.ok c.loop-birth.invariant.0,
  (all_first FitEntry (c.in-Some.birth.now, c.in-Some.node.now) c.next.new.self c.loop-birth.birth-iterator c.in-Some.ensures.steps c.loop-birth.invariant.1).1,
)
