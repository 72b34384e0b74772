use Rattle.volume_ops.proofs.TreeUnique.{walked_tree, tree_walked, one_tree}
use Rattle.volume_ops.proofs.laws.volumes_have_one_tree.Goals as goal

pub returns : goal.returns
returns c = record { by_fields = walked_tree; by_walk = tree_walked; one = one_tree }
