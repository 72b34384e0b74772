use Rattle.std.proofs.Common.{◌≡◌, take}
use Rattle.volume_ops.specs.Volume.{bodies_of}
use Rattle.volume_ops.proofs.volume.bodies_of.Given as goal

abbrev pub invariant-loop-block : goal.invariant-loop-block
invariant-loop-block l = l.bodies ≡ bodies_of l.disk (take l.block-index l.mapped)
