use Rattle.mount_make.specs.Made.{made_block}
use Rattle.mount_make.specs.code.Making.{IsFilled}
use Rattle.mount_make.proofs.make.put_volume.Given as goal

abbrev pub invariant-loop-block : goal.invariant-loop-block
invariant-loop-block l = IsFilled (made_block l.g) l.block l.fn.image l.image
