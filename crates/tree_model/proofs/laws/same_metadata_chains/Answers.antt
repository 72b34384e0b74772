-- Trees that are alike chain.
use Rattle.tree_model.specs.laws.Alike.{alike_self, alike_chain, same_tree_self, same_tree_chain}
use Rattle.tree_model.proofs.laws.same_metadata_chains.Goals as goal

pub returns : goal.returns
returns c = record { itself = alike_self; chain = alike_chain; same_itself = same_tree_self; same_chain = same_tree_chain }
