use Rattle.volume_ops.proofs.RootedLaws.{tree_of-rooted}
use Rattle.volume_ops.proofs.laws.trees_are_rooted.Goals as goal

pub returns : goal.returns
returns c = record { rooted = tree_of-rooted }
