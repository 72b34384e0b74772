use Rattle.std.proofs.Common.{◌+◌}
use Rattle.vol_check.specs.Clean.{HasLinks}
use Rattle.vol_check.specs.Verdicts.{AllFrom}
use Rattle.vol_check.proofs.links.wrong_links.Given as goal

abbrev pub invariant-loop-before : goal.invariant-loop-before
invariant-loop-before l = AllFrom 1 (l.before + 1) (HasLinks l.volume.geometry l.volume.blocks)
