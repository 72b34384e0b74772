use Rattle.std.proofs.Common.{◌≡◌}
use Rattle.std.specs.List.{All}
use Rattle.widening.specs.code.Steps.{FitEntry, nodes_written}
use Rattle.widening.proofs.migrating.widen_nodes.Given as goal

abbrev pub invariant-loop-birth : goal.invariant-loop-birth
invariant-loop-birth l =
    (nodes_written l.g l.disk l.birth-iterator (record { image = l.image; free = l.free }) ≡ nodes_written l.g l.disk l.tree (record { image = l.initial.image; free = l.initial.free }))
    × All FitEntry l.birth-iterator
