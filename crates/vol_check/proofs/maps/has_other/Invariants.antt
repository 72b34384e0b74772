use Rattle.std.proofs.Common.{◌+◌}
use Rattle.vol_check.specs.Clean.{IsOther}
use Rattle.vol_check.specs.Verdicts.{AllFrom}
use Rattle.vol_check.proofs.maps.has_other.Given as goal

abbrev pub invariant-loop-before : goal.invariant-loop-before
invariant-loop-before l = AllFrom 1 (l.before + 1) (λ inode. IsOther l.volume.geometry l.volume.blocks inode → ⊥)
