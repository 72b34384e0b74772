use Rattle.std.proofs.Common.{◌≡◌}
use Rattle.blk_base.specs.Block.{filled}
use Rattle.blk_base.specs.laws.Filling.{filled_to}
use Rattle.blk_base.proofs.image.Image.front.Given as goal

abbrev pub invariant-loop-b : goal.invariant-loop-b
invariant-loop-b l = record { image : l.image ≡ filled_to (filled 0) l.blocks l.self l.b }
