use Rattle.std.proofs.Common.{◌≡◌, length, IsTrue}
use Rattle.std.specs.List.{list_all}
use Rattle.tree_model.specs.Paths.{is_path_name}
use Rattle.volume_steps.specs.Now.{tree_of_now}
use Rattle.tree_model.specs.code.PathTexts.{names_below, led_from}
use Rattle.volume_calls.proofs.plain.PlainVolume.birth_at.Given as goal

abbrev pub invariant-loop-left : goal.invariant-loop-left
invariant-loop-left l = record {
  led : led_from (tree_of_now l.self) l.birth (names_below l.left) ≡ led_from (tree_of_now l.self) 0 (names_below l.names);
  words : IsTrue (list_all is_path_name (names_below l.left));
}

abbrev pub decreases-loop-left : goal.decreases-loop-left
decreases-loop-left l = length l.left
