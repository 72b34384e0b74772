use Rattle.std.proofs.Common.{◌≡◌, drop, length}
use Rattle.blk_base.specs.Block.{filled}
use Rattle.widening.specs.Written.{put_numbers}
use Rattle.widening.proofs.bodies.numbers_block.Given as goal

abbrev pub invariant-loop-at : goal.invariant-loop-at
invariant-loop-at l = (put_numbers l.at (drop l.at l.zones) l.bytes ≡ put_numbers 0 l.zones (filled 0)) × (length l.bytes ≡ 1024)
