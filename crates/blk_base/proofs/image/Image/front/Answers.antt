use Rattle.std.proofs.Common.{◌∙◌, Some, sym, ap}
use Rattle.blk_base.specs.Block.{filled}
use Rattle.blk_base.specs.laws.Filling.{filled_to-next, filled_to-skip}
use Rattle.blk_base.proofs.image.Image.front.Goals as goal
use Rattle.blk_base.proofs.image.Image.front.Goals.{then-not-is_zeros, else-not-is_zeros}

pub loop-b-preserved : goal.loop-b-preserved
loop-b-preserved c = record {
  image = elim c.if-not-is_zeros.branch [
    | then-not-is_zeros w ↦
        filled_to-next (filled 0) w.copy.result c.args.blocks c.loop-b.b c.args.self.now c.loop-b.image _ c.loop-b.invariant.image c.loop-b-test.true
        (w.block.ensures ∙ ap Some (sym w.copy.ensures)) (w.image-is ∙ w.put.ensures)
    | else-not-is_zeros w ↦
        filled_to-skip (filled 0) c.args.blocks c.loop-b.b c.args.self.now c.loop-b.image _ c.loop-b.invariant.image c.loop-b-test.true
        (c.is_zeros.ensures w.if-not-is_zeros.false) w.image-is
  ];
}
