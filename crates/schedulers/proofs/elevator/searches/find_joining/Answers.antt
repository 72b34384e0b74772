-- The first put of the block, where it is of the class.
use Rattle.std.proofs.Common.{◌≡◌, None, MatchOption, slice_get, ap, sym, subst, ◌∙◌}
use Rattle.schedulers.specs.elevator.Elevator.{next_part}
use Rattle.schedulers.specs.elevator.code.Found.{IsJoining}
use Rattle.std.proofs.Math.Bool.{beq}
use Rattle.order_model.specs.declared.request.Request.{Request}
use Rattle.schedulers.proofs.ElevatorLemmas.Steps.{got}
use Rattle.schedulers.proofs.ElevatorLemmas.Joining.{none_joins, first_joins, first_differs}
use Rattle.schedulers.proofs.elevator.searches.find_joining.Goals as goal

pub returns-in_err-at : goal.returns-in_err-at
returns-in_err-at c =
    let queue = c.args.queue.now in
    subst (λ o. MatchOption o (next_part queue c.args.block c.args.ordered ≡ None) (IsJoining queue c.args.block c.args.ordered)) (sym c.from_residual.ensures)
    (none_joins queue c.args.block c.args.ordered c.in_err-at.ensures)

pub returns-then-request-ordered : goal.returns-then-request-ordered
returns-then-request-ordered c =
    let queue = c.args.queue.now in
    let w = got (slice_get queue.waiting c.in_ok-at.at) c.in_ok-request.request.now c.in_ok-request.ensures in
    first_joins queue c.args.block c.in_ok-at.at c.args.ordered w.0 c.requires c.in_ok-at.ensures w.1 (ap (λ (r : Request). beq r.ordered c.args.ordered) w.2 ∙ c.if-request-ordered.true)

pub returns-else-request-ordered : goal.returns-else-request-ordered
returns-else-request-ordered c =
    let queue = c.args.queue.now in
    let w = got (slice_get queue.waiting c.in_ok-at.at) c.in_ok-request.request.now c.in_ok-request.ensures in
    first_differs queue c.args.block c.in_ok-at.at c.args.ordered w.0 c.requires c.in_ok-at.ensures w.1 (ap (λ (r : Request). beq r.ordered c.args.ordered) w.2 ∙ c.if-request-ordered.false)
