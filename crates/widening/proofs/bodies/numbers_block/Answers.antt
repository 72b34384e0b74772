use Rattle.std.proofs.Common.{refl}
use Rattle.blk_base.specs.Block.{filled}
use Rattle.widening.proofs.bodies.numbers_block.Goals as goal

pub loop-at-init : goal.loop-at-init
unfolding filled
loop-at-init c = (refl, refl)
