use Rattle.minix_host.proofs.StillCalls.{still_calls}
use Rattle.minix_host.proofs.laws.promises.calls_that_change_nothing_are_not_hindered.Goals as goal

pub returns : goal.returns
returns c = record { still = still_calls }
