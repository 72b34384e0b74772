use Rattle.std.proofs.Common.{◌≡◌, ◌++◌}
use Rattle.tree_model.proofs.maps.FileBlocks.copy.Given as goal

abbrev pub invariant-loop-index : goal.invariant-loop-index
invariant-loop-index l = l.copy ++ l.index-iterator ≡ l.self
