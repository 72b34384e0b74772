-- Commands that are merged in groups.
use Rattle.order_model.proofs.Merging.{carries_merged}
use Rattle.order_model.proofs.order_law.carries_requests_merged.Goals as goal

pub returns : goal.returns
returns c = carries_merged
