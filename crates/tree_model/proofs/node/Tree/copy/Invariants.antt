use Rattle.std.proofs.Common.{◌≡◌, ◌++◌}
use Rattle.tree_model.proofs.node.Tree.copy.Given as goal

abbrev pub invariant-loop-birth : goal.invariant-loop-birth
invariant-loop-birth l = l.copy ++ l.birth-iterator ≡ l.self
