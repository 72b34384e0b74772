-- What the definitions compute.
use Rattle.std.specs.Prelude.{refl}
use Rattle.tree_model.specs.Paths.{path_of}
use Rattle.tree_model.specs.Calls.{row, outcome, tree_after, reply_of}
use Rattle.image_tests.proofs.calling.renames_are_refused_in_order.Goals as goal

pub returns : goal.returns
unfolding reply_of tree_after outcome row path_of
returns c = refl
