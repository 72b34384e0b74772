use Rattle.image_tests.proofs.Recovering.{sent_last}
use Rattle.image_tests.proofs.recoveries.recoveries_end_in_barrier_and_flush.Goals as goal

pub returns : goal.returns
returns c = sent_last
