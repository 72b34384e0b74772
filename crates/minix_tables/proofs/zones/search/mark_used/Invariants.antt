use Rattle.std.proofs.Common.{◌≡◌, length, map, take}
use Rattle.std.specs.List.{range_with_len}
use Rattle.minix_tables.specs.zones.Zones.{mark}
use Rattle.minix_tables.proofs.zones.search.mark_used.Given as goal

abbrev pub invariant-loop-zone : goal.invariant-loop-zone
invariant-loop-zone l = l.states ≡ map (mark (take l.zone-index l.used)) (range_with_len l.first (length l.initial.states))
