use Rattle.std.proofs.Common.{◌≡◌, ◌++◌, drop}
use Rattle.volume_ops.specs.Volume.{bodies_of}
use Rattle.volume_in_use.proofs.reads.trees.bodies.Given as goal

abbrev pub invariant-loop-mapped : goal.invariant-loop-mapped
invariant-loop-mapped l = l.bodies ++ bodies_of l.blocks (drop l.mapped-index l.zones) ≡ bodies_of l.blocks l.zones
