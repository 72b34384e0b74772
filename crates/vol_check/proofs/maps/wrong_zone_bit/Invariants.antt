use Rattle.std.proofs.Common.{◌≤◌}
use Rattle.vol_check.specs.Clean.{HasZoneBit}
use Rattle.vol_check.specs.Verdicts.{AllFrom}
use Rattle.vol_check.proofs.maps.wrong_zone_bit.Given as goal

abbrev pub invariant-loop-zone : goal.invariant-loop-zone
invariant-loop-zone l = (l.volume.geometry.first ≤ l.zone) × AllFrom l.volume.geometry.first l.zone (HasZoneBit l.volume.geometry l.volume.blocks)
