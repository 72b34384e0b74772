-- What may leave is picked, in the order in which the head meets it.
use Rattle.schedulers.proofs.ElevatorLemmas.Picking.{may-pick, pick-may, command-pick, in_order}
use Rattle.schedulers.proofs.elevator.laws.picks_what_may_leave.Goals as goal

pub returns-clause-may : goal.returns-clause-may
returns-clause-may c = λ s i v. (may-pick s i v, λ p. pick-may s p.0 i p.1 v p.2)

pub returns-clause-each : goal.returns-clause-each
returns-clause-each c = command-pick

pub returns-clause-order : goal.returns-clause-order
returns-clause-order c = in_order
