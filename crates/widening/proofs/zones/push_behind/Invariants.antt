use Rattle.std.proofs.Common.{◌≡◌, ◌++◌, map}
use Rattle.std.specs.List.{range_with_len}
use Rattle.volume_ops.specs.Places.{zone_number}
use Rattle.volume_ops.specs.Volume.{disk_of}
use Rattle.widening.specs.Directories.{no_holes}
use Rattle.widening.proofs.zones.push_behind.Given as goal

abbrev pub invariant-loop-at : goal.invariant-loop-at
invariant-loop-at l = l.zones.items ≡ l.initial.zones.items ++ no_holes (map (zone_number (disk_of l.disk l.zone)) (range_with_len 0 l.at))
