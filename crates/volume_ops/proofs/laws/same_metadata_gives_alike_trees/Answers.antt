use Rattle.volume_ops.proofs.AlikeLaws.{changed_alike, changed_births}
use Rattle.volume_ops.proofs.laws.same_metadata_gives_alike_trees.Goals as goal

pub returns : goal.returns
returns c = record { alike = changed_alike; same_births = changed_births }
