-- The list has as many requests as may leave.
use Rattle.std.proofs.Common.{◌≡◌, length, sym, subst, ◌∙◌}
use Rattle.schedulers.specs.reassign.Epoch.{eligible}
use Rattle.schedulers.specs.elevator.Elevator.{ElevatorState, listed}
use Rattle.schedulers.specs.elevator.laws.List.{length-in_order}
use Rattle.schedulers.proofs.elevator.elevator.ElevatorScheduler.eligible.Goals as goal

pub returns : goal.returns
returns c =
    subst (λ (s : ElevatorState). c.eligible.result ≡ length (listed s.head s.queue.waiting)) c.self.view_is
    (c.eligible.ensures ∙ sym (length-in_order c.self.inside.head (eligible c.self.inside.queue.waiting)))
