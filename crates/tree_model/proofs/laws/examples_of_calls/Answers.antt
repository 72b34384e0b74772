-- What the definitions compute.
use Rattle.tree_model.proofs.Examples.{replies_to_names, replies_to_moves, replies_to_last_block, first_block_needs, indirect_needs, double_indirect_needs, same_group_needs, next_group_needs}
use Rattle.tree_model.proofs.laws.examples_of_calls.Goals as goal

pub returns : goal.returns
returns c = record {
  replies = replies_to_names;
  moves = replies_to_moves;
  last_block = replies_to_last_block;
  direct = first_block_needs;
  indirect = indirect_needs;
  double_indirect = double_indirect_needs;
  same_group = same_group_needs;
  next_group = next_group_needs;
}
