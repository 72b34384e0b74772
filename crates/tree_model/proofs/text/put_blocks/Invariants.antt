use Rattle.std.proofs.Common.{◌≡◌, ◌++◌}
use Rattle.std.specs.String.{string_bytes}
use Rattle.tree_model.specs.Text.{blocks_text}
use Rattle.tree_model.proofs.text.put_blocks.Given as goal

abbrev pub invariant-loop-index : goal.invariant-loop-index
invariant-loop-index l = string_bytes l.out ++ blocks_text l.size l.index-iterator ≡ string_bytes l.fn.out ++ blocks_text l.size l.blocks
