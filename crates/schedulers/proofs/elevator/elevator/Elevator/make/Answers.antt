-- An elevator that accepted nothing.
use Rattle.schedulers.proofs.ElevatorLemmas.Steps.{made_fields}
use Rattle.schedulers.proofs.elevator.elevator.Elevator.make.Goals as goal

pub invariant_of-result : goal.invariant_of-result
invariant_of-result c = made_fields c.args.limit 128 _ _ _ c.in_ok-make.ensures c.make-2.ensures c.make-3.ensures
