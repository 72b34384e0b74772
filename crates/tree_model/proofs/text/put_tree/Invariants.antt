use Rattle.std.proofs.Common.{◌≡◌, ◌++◌}
use Rattle.std.specs.String.{string_bytes}
use Rattle.tree_model.specs.Text.{tree_text}
use Rattle.tree_model.specs.code.TextWalk.{text_left, names_left}
use Rattle.tree_model.proofs.text.put_tree.Given as goal

abbrev pub invariant-loop-place : goal.invariant-loop-place
invariant-loop-place l = string_bytes l.out ++ text_left l.walk ≡ string_bytes l.fn.out ++ tree_text l.fn.tree

abbrev pub decreases-loop-place : goal.decreases-loop-place
decreases-loop-place l = names_left l.walk
