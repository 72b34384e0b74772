use Rattle.std.proofs.Common.{◌≡◌, ◌^◌, ◌<◌, ◌++◌, reverse}
use Rattle.std.specs.List.{All}
use Rattle.std.specs.Iterator.Adapters.{rev_source}
use Rattle.volume_ops.specs.Walk.{pending_in}
use Rattle.volume_ops.proofs.visit.push_names.Given as goal

-- with the names that are left the stack gets all names
abbrev pub invariant-loop-birth : goal.invariant-loop-birth
invariant-loop-birth l =
    (l.stack.items ++ reverse (pending_in l.parent (rev_source l.birth-iterator)) ≡ l.initial.stack.items ++ reverse (pending_in l.parent l.names))
    × All (λ e. e.1 < 2 ^ 16) (rev_source l.birth-iterator)
