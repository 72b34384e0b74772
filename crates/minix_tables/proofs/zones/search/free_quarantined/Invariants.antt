use Rattle.std.proofs.Common.{◌≡◌, ◌++◌, map, take, drop, count_by}
use Rattle.minix_tables.specs.zones.Zones.{is_quarantined_for, let_go}
use Rattle.minix_tables.proofs.zones.search.free_quarantined.Given as goal

abbrev pub invariant-loop-state : goal.invariant-loop-state
invariant-loop-state l =
    (l.states ≡ map (let_go l.tx) (take l.state-index l.initial.states) ++ drop l.state-index l.initial.states)
    × (l.freed ≡ count_by (is_quarantined_for l.tx) (take l.state-index l.initial.states))
