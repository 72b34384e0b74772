use Rattle.std.proofs.Common.{◌≡◌, ◌++◌, drop}
use Rattle.std.specs.String.{string_bytes}
use Rattle.tree_model.specs.Text.{name_text}
use Rattle.tree_model.proofs.text.put_name.Given as goal

abbrev pub invariant-loop-b : goal.invariant-loop-b
invariant-loop-b l = string_bytes l.out ++ name_text (drop l.b-index l.name) ≡ string_bytes l.fn.out ++ name_text l.name
