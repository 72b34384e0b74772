use Rattle.std.proofs.Common.{◌≡◌, ◌==◌, length, IsTrue}
use Rattle.std.specs.List.{list_all, list_any}
use Rattle.tree_model.specs.Paths.{is_path_name}
use Rattle.tree_model.specs.Calls.{above}
use Rattle.volume_steps.specs.Now.{tree_of_now}
use Rattle.tree_model.specs.code.PathTexts.{names_below}
use Rattle.volume_calls.proofs.plain.PlainVolume.comes_by.Given as goal

abbrev pub invariant-loop-left : goal.invariant-loop-left
invariant-loop-left l = record {
  rest : list_any (λ b. b == l.birth) (above (tree_of_now l.self) l.at (names_below l.left)) ≡ list_any (λ b. b == l.birth) (above (tree_of_now l.self) 0 (names_below l.names));
  words : IsTrue (list_all is_path_name (names_below l.left));
}

abbrev pub decreases-loop-left : goal.decreases-loop-left
decreases-loop-left l = length l.left
