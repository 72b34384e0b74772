use Rattle.volume_ops.proofs.TreeLaws.{tree_of-fields}
use Rattle.volume_ops.proofs.laws.trees_have_fields.Goals as goal

pub returns : goal.returns
returns c = record { fields = tree_of-fields }
