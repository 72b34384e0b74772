-- What keeps it blocked, and what ends that.
use Rattle.schedulers.proofs.ElevatorLemmas.Picking.{blocked-is, barrier-is}
use Rattle.schedulers.proofs.elevator.laws.blocks_while_an_epoch_leaves.Goals as goal

pub returns-clause-blocked : goal.returns-clause-blocked
returns-clause-blocked c = blocked-is

pub returns-clause-barrier : goal.returns-clause-barrier
returns-clause-barrier c = barrier-is
