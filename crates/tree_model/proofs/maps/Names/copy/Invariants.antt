use Rattle.std.proofs.Common.{◌≡◌, ◌++◌}
use Rattle.tree_model.proofs.maps.Names.copy.Given as goal

abbrev pub invariant-loop-name : goal.invariant-loop-name
invariant-loop-name l = l.copy ++ l.name-iterator ≡ l.self
