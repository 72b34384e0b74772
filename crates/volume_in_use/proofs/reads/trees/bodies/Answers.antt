use Rattle.volume_in_use.proofs.ReadsLemmas.TreeTurns.{body_turn}
use Rattle.volume_in_use.proofs.reads.trees.bodies.Goals as goal

pub loop-mapped-preserved : goal.loop-mapped-preserved
loop-mapped-preserved c =
    body_turn c.args.blocks.now c.as_slice-mapped-items.result.now c.args.zones.now c.as_slice-mapped-items.ensures c.requires c.loop-mapped.mapped-index _ c.loop-mapped-test.true
    c.loop-mapped.bodies c.put.new.self c.body_at.result c.body_at.ensures c.loop-mapped.invariant c.in_ok-put.ensures.put
