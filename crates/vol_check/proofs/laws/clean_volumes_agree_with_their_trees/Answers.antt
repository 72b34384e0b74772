use Rattle.vol_check.proofs.CleanTrees.{clean_by_tree}
use Rattle.vol_check.proofs.laws.clean_volumes_agree_with_their_trees.Goals as goal

pub returns : goal.returns
returns c = clean_by_tree
