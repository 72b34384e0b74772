use Rattle.widening.proofs.WidenedTrees.{wide_divided, wide_mounted, wide_tree_of, as_it_was}
use Rattle.widening.proofs.laws.widened_images_keep_trees.Goals as goal

pub returns-clause-divided : goal.returns-clause-divided
returns-clause-divided c = wide_divided

pub returns-clause-mounted : goal.returns-clause-mounted
returns-clause-mounted c = wide_mounted

pub returns-clause-tree : goal.returns-clause-tree
returns-clause-tree c = λ blocks image v w tree h. wide_tree_of blocks image v h w tree

pub returns-clause-as_it_was : goal.returns-clause-as_it_was
returns-clause-as_it_was c = as_it_was
