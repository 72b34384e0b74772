-- What joins.
use Rattle.schedulers.proofs.ElevatorLemmas.Picking.{part-is, joins-is, parts-few}
use Rattle.schedulers.proofs.elevator.laws.gathers_puts_of_consecutive_blocks.Goals as goal

pub returns-clause-parts : goal.returns-clause-parts
returns-clause-parts c = part-is

pub returns-clause-joins : goal.returns-clause-joins
returns-clause-joins c = joins-is

pub returns-clause-few : goal.returns-clause-few
returns-clause-few c = parts-few
