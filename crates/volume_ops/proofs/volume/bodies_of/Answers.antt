use Rattle.std.proofs.Common.{◌∙◌}
use Rattle.volume_ops.proofs.Bodies.{put_body}
use Rattle.volume_ops.proofs.volume.bodies_of.Goals as goal

pub loop-block-preserved : goal.loop-block-preserved
loop-block-preserved c =
    c.in_ok-put.ensures.put
    ∙ put_body c.args.disk.now c.args.mapped.now c.loop-block.block-index _ _ c.loop-block.bodies c.copy.result
    c.requires c.loop-block-test.true c.loop-block.invariant c.into.ensures (c.copy.ensures ∙ c.body.ensures)
