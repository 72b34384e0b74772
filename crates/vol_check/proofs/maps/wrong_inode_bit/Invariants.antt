use Rattle.std.proofs.Common.{◌+◌}
use Rattle.vol_check.specs.Clean.{HasInodeBit}
use Rattle.vol_check.specs.Verdicts.{AllFrom}
use Rattle.vol_check.proofs.maps.wrong_inode_bit.Given as goal

abbrev pub invariant-loop-before : goal.invariant-loop-before
invariant-loop-before l = AllFrom 1 (l.before + 1) (HasInodeBit l.volume.geometry l.volume.blocks)
