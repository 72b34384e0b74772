use Rattle.std.proofs.Common.{◌<◌, slice_get, sym, ap, ◌∙◌, subst, arith}
use Rattle.blk_base.specs.Block.{filled}
use Rattle.blk_base.specs.laws.Filling.{filled_to-next}
use Rattle.order_model.specs.Steps.{OnlyReads}
use Rattle.volume_ops.specs.laws.DeviceReads.{more_reads, quiet_after, same_surface}
use Rattle.widening.proofs.migrating.read_image.Goals as goal

pub read-requires-clause-quiet : goal.read-requires-clause-quiet
read-requires-clause-quiet g c = quiet_after _ _ c.loop-block.invariant.reads c.requires.quiet

pub loop-block-preserved : goal.loop-block-preserved
loop-block-preserved g c =
    let d = g.D.OrderedDev in
    let laws = g.met.D.OrderedDev in
    let now = d.state c.loop-block.dev in
    let block = c.loop-block.block in
    let so_far = c.loop-block.invariant in
    let after = c.in-Ok.ensures.state in
    let step = laws.reads now block so_far.valid in
    let below : block < c.blocks-blocks.result = omega arith in
    record {
      valid = subst d.valid (sym after) step.0;
      reads = more_reads _ _ _ so_far.reads (subst (λ s. OnlyReads (d.seen now) (d.seen s)) (sym after) step.1);
      read =
          filled_to-next (filled 0) c.in-Ok.body c.blocks-blocks.result block (d.seen (d.state c.args.dev.now)).surface c.loop-block.image _ so_far.read below
          (ap (λ xs. slice_get xs block) (sym (same_surface _ _ so_far.reads)) ∙ c.in-Ok.ensures.body) c.put.ensures;
      sound = λ sound. subst d.sound (sym after) (laws.stays_sound now block (so_far.sound sound)).3;
      no_fault = λ sound. ap (λ s. (d.seen s).faults) after ∙ ((laws.no_fault now block so_far.valid (so_far.sound sound)).1 ∙ so_far.no_fault sound);
    }
