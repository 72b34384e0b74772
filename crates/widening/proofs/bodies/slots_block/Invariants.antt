use Rattle.std.proofs.Common.{◌≡◌, drop}
use Rattle.blk_base.specs.Block.{filled}
use Rattle.widening.specs.Written.{put_slots}
use Rattle.widening.proofs.bodies.slots_block.Given as goal

abbrev pub invariant-loop-at : goal.invariant-loop-at
invariant-loop-at l = put_slots l.at (drop l.at l.slots) l.block ≡ put_slots 0 l.slots (filled 0)
