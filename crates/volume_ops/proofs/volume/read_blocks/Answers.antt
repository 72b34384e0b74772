use Rattle.std.proofs.Common.{◌≡◌, ◌<◌, ◌≤◌, length, slice_get, sym, ap, ◌∙◌, subst, arith}
use Rattle.blk_base.specs.Block.{filled}
use Rattle.blk_base.specs.laws.Filling.{filled_to, filled_to-next, filled_to-all, length-filled_to}
use Rattle.order_model.specs.Steps.{OnlyReads}
use Rattle.volume_ops.specs.laws.DeviceReads.{more_reads, quiet_after, same_surface}
use Rattle.volume_ops.proofs.volume.read_blocks.Goals as goal

pub read-requires-clause-quiet : goal.read-requires-clause-quiet
read-requires-clause-quiet g c = quiet_after _ _ c.loop-block.invariant.reads c.requires.quiet

pub loop-block-preserved : goal.loop-block-preserved
loop-block-preserved g c =
    let d = g.D.OrderedDev in
    let laws = g.met.D.OrderedDev in
    let now = d.state c.loop-block.dev in
    let block = c.loop-block.block in
    let so_far = c.loop-block.invariant in
    let after = c.in-Ok.ensures.state in
    let step = laws.reads now block so_far.valid in
    let below : block < c.args.blocks = omega arith in
    record {
      valid = subst d.valid (sym after) step.0;
      reads = more_reads _ _ _ so_far.reads (subst (λ s. OnlyReads (d.seen now) (d.seen s)) (sym after) step.1);
      read =
          filled_to-next (filled 0) c.in-Ok.body c.args.blocks block (d.seen (d.state c.args.dev.now)).surface c.loop-block.image _ so_far.read below
          (ap (λ xs. slice_get xs block) (sym (same_surface _ _ so_far.reads)) ∙ c.in-Ok.ensures.body) c.put.ensures;
      sound = λ sound. subst d.sound (sym after) (laws.stays_sound now block (so_far.sound sound)).3;
      no_fault = λ sound. ap (λ s. (d.seen s).faults) after ∙ ((laws.no_fault now block so_far.valid (so_far.sound sound)).1 ∙ so_far.no_fault sound);
    }

pub put-requires : goal.put-requires
put-requires g c =
    let d = g.D.OrderedDev in
    let surface = (d.seen (d.state c.args.dev.now)).surface in
    let block = c.loop-block.block in
    let below : block < c.args.blocks = omega arith in
    let whole : c.args.blocks ≤ length surface = c.requires.whole in
    let len = length-filled_to (filled 0) c.args.blocks block surface (omega (arith, below)) (omega (arith, below, whole)) in
    let same = ap length c.loop-block.invariant.read ∙ len in
    omega (arith, same, below)

pub returns-clause-image : goal.returns-clause-image
returns-clause-image g c =
    let d = g.D.OrderedDev in
    let surface = (d.seen (d.state c.args.dev.now)).surface in
    let end = c.loop-block.auto.block-end in
    let past = c.loop-block-test.false in
    let at : c.loop-block.block ≡ c.args.blocks = omega (arith, end, past) in
    c.loop-block.invariant.read ∙ ap (filled_to (filled 0) c.args.blocks surface) at ∙ filled_to-all (filled 0) c.args.blocks surface
