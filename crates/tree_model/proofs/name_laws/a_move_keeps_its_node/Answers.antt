-- Nodes that move.
use Rattle.tree_model.proofs.MovedNodes.{rename_file, rename_directory, rename_replaced, rename_rest, rename_old, rename_new, rename_kept, rename_within}
use Rattle.tree_model.proofs.name_laws.a_move_keeps_its_node.Goals as goal

pub returns : goal.returns
returns c = record {
  file = rename_file;
  directory = rename_directory;
  replaced = rename_replaced;
  others = rename_rest;
  old_directory = rename_old;
  new_directory = rename_new;
  replacing = rename_kept;
  one_directory = rename_within;
}
