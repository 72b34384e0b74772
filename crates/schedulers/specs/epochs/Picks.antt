-- What a pick of the plain scheduler sends.
use Rattle.std.specs.Prelude.{◌≡◌, ℕ, Bool, Some, slice_get}
use Rattle.order_model.specs.declared.request.Request.{Request}
use Rattle.order_model.specs.Single.{command_of_request}
use Rattle.schedulers.specs.reassign.Sched.{SchedState, sched_steps}

-- it sends the request at place i of those that were accepted, as a command of its own, as the barrier or not
pub record IsSentBy (s : SchedState) (pick i : ℕ) (flagged : Bool) : Type 0 where
  pub request : Request
  pub taken : slice_get s.accepted i ≡ Some request
  pub sends : sched_steps.command s pick ≡ Some (command_of_request request flagged)
