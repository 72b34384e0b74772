use Rattle.std.proofs.Common.{◌≡◌, ◌++◌, reverse}
use Rattle.std.specs.Iterator.Adapters.{rev_source}
use Rattle.tree_model.specs.Text.{below}
use Rattle.tree_model.proofs.text.push_names.Given as goal

abbrev pub invariant-loop-name : goal.invariant-loop-name
invariant-loop-name l = below l.path (rev_source l.name-iterator) ++ reverse l.places.items ≡ below l.path l.names ++ reverse l.fn.places.items
