use Rattle.std.proofs.Common.{◌≡◌, ◌++◌, drop}
use Rattle.widening.specs.Directories.{no_holes}
use Rattle.widening.proofs.zones.push_zones.Given as goal

abbrev pub invariant-loop-zone : goal.invariant-loop-zone
invariant-loop-zone l = l.zones.items ++ no_holes (drop l.zone-index l.numbers) ≡ l.initial.zones.items ++ no_holes l.numbers
