use Rattle.std.proofs.Common.{◌≡◌, ◌++◌, drop, map}
use Rattle.std.specs.List.{concat}
use Rattle.widening.specs.Directories.{zones_behind}
use Rattle.widening.proofs.zones.push_all_behind.Given as goal

abbrev pub invariant-loop-zone : goal.invariant-loop-zone
invariant-loop-zone l =
    l.zones.items ++ concat (map (zones_behind l.disk) (drop l.zone-index l.inner))
    ≡ l.initial.zones.items ++ concat (map (zones_behind l.disk) l.inner)
