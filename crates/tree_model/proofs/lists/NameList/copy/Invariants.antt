-- The names so far.
use Rattle.std.proofs.Common.{◌≡◌, take}
use Rattle.tree_model.proofs.lists.NameList.copy.Given as goal

abbrev pub invariant-loop-name : goal.invariant-loop-name
invariant-loop-name l = l.copy ≡ take l.name-index l.name-items
