-- Where the head goes.
use Rattle.schedulers.proofs.ElevatorLemmas.Picking.{head_moves, head_stays, head_where_none}
use Rattle.schedulers.proofs.elevator.laws.head_goes_behind_the_last_part.Goals as goal

pub returns-clause-moves : goal.returns-clause-moves
returns-clause-moves c = head_moves

pub returns-clause-flush : goal.returns-clause-flush
returns-clause-flush c = head_stays

pub returns-clause-none : goal.returns-clause-none
returns-clause-none c = head_where_none
