use Rattle.std.proofs.Common.{◌≡◌, length}
use Rattle.std.specs.List.{list_all}
use Rattle.tree_model.specs.Paths.{is_path_name}
use Rattle.tree_model.specs.code.PathTexts.{names_below}
use Rattle.tree_model.proofs.path_text.have_path_names.Given as goal

abbrev pub invariant-loop-left : goal.invariant-loop-left
invariant-loop-left l = list_all is_path_name (names_below l.left) ≡ list_all is_path_name (names_below l.text)

abbrev pub decreases-loop-left : goal.decreases-loop-left
decreases-loop-left l = length l.left
