-- What a pick of the elevator sends, in words of the requests that wait.
use Rattle.std.specs.Prelude.{◌≡◌, ℕ, Bool, List, Some, IsSomeAnd, slice_get}
use Rattle.order_model.specs.declared.part.Part.{Part}
use Rattle.order_model.specs.declared.command.Command.{Command}
use Rattle.order_model.specs.declared.request.Kind.TheVariants.{Put}
use Rattle.order_model.specs.declared.request.Request.{Request}
use Rattle.order_model.specs.OrderClosed.{IsPutOf}
use Rattle.order_model.specs.Received.{ids_of}
use Rattle.order_model.specs.Carrying.{SchedSeen}
use Rattle.schedulers.specs.reassign.MayLeave.{MayLeave}
use Rattle.schedulers.specs.elevator.Elevator.{ElevatorState, elevator_steps}

-- this command comes, and the request at place i of those that were accepted is the first that it carries
pub record IsSentBy (s : ElevatorState) (pick i : ℕ) (c : Command) : Type 0 where
  pub sends : elevator_steps.command s pick ≡ Some c
  pub request : Request
  pub taken : slice_get s.accepted i ≡ Some request
  pub first : slice_get (ids_of c) 0 ≡ Some request.id

-- the request at place j is the put that is this part
abbrev pub IsPartFor : List Request → ℕ → Part → Type 0
IsPartFor accepted j p = IsSomeAnd (slice_get accepted j) (λ r. (r.id ≡ p.id) × (r.kind ≡ Put p.block p.body))

-- at place j a put of this block may leave, order-preserving exactly where the flag says so
pub record CanJoin (s : SchedSeen) (ordered : Bool) (block j : ℕ) : Type 0 where
  pub may : MayLeave s j
  pub put : IsPutOf s.accepted j block
  pub class : IsSomeAnd (slice_get s.accepted j) (λ r. r.ordered ≡ ordered)
