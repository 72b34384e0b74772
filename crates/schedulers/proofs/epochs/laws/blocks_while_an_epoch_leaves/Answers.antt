-- What keeps it blocked.
use Rattle.schedulers.specs.reassign.laws.MayLeaveLaws.{blocked-means}
use Rattle.schedulers.proofs.epochs.laws.blocks_while_an_epoch_leaves.Goals as goal

pub returns : goal.returns
returns c = blocked-means
