-- The list, in its own words.
use Rattle.schedulers.specs.elevator.laws.List.{in_order-In, In-in_order, length-in_order}
use Rattle.schedulers.proofs.ElevatorLemmas.Finding.{listed-rises}
use Rattle.schedulers.specs.reassign.Epoch.{eligible}
use Rattle.schedulers.proofs.elevator.elevator.lists_requests_as_the_head_meets_them.Goals as goal

pub returns-clause-same : goal.returns-clause-same
returns-clause-same c = λ s w. (in_order-In s.head (eligible s.queue.waiting) w, In-in_order s.head (eligible s.queue.waiting) w)

pub returns-clause-count : goal.returns-clause-count
returns-clause-count c = λ s. length-in_order s.head (eligible s.queue.waiting)

pub returns-clause-order : goal.returns-clause-order
returns-clause-order c = λ s i j u w v lt a b. listed-rises s.queue.waiting s.head i j u w v.apart.ascending lt a b
