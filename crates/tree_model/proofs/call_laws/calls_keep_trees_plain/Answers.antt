-- Calls keep trees plain.
use Rattle.tree_model.proofs.PlainTrees.{call_plain, call_births, call_born, new_plain, new_born}
use Rattle.tree_model.proofs.call_laws.calls_keep_trees_plain.Goals as goal

pub returns : goal.returns
returns c = record { plain = call_plain; births = call_births; rise = call_born; new_plain = new_plain; new_born = new_born }
