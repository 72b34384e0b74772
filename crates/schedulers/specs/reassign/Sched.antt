-- The plain scheduler: each request leaves its queue as a command of its own.
use Rattle.std.specs.Prelude.{ℕ, ◌++◌, List, [], ◌∷◌, length, map, Option, Some, None}
use Rattle.std.specs.Option.{option_map}
use Rattle.order_model.specs.declared.command.Command.{Command}
use Rattle.order_model.specs.declared.request.Request.{Request}
use Rattle.order_model.specs.Single.{command_of_request}
use Rattle.order_model.specs.Carrying.{SchedSeen}
use Rattle.schedulers.specs.declared.reassign.closing.Closing.TheVariants as closings
use Rattle.schedulers.specs.reassign.Epoch as epoch
use Rattle.schedulers.specs.reassign.Epoch.{EpochState, Waiting, can_accept, is_blocked, eligible, picked, departed, leaves_flagged}
use Rattle.schedulers.specs.reassign.Scheduler.{SchedSteps}

-- the plain scheduler: what it accepted and sent out, and the requests that wait
pub record SchedState : Type 0 where
  -- how many requests it may accept in all
  pub limit : ℕ
  -- what it accepted, as it was submitted, and what it sent out
  pub accepted : List Request
  pub sent_out : List Command
  pub queue : EpochState

-- ---- the steps

-- a scheduler that accepted nothing yet
abbrev pub opened : ℕ → ℕ → SchedState
opened limit capacity = record { limit = limit; accepted = []; sent_out = []; queue = record { capacity = capacity; next = 0; waiting = []; closing = closings.Open } }

-- the request is kept in the history as it was submitted, and waits
abbrev pub accepted : SchedState → Request → SchedState
accepted s r = record s { accepted = s.accepted ++ r ∷ []; queue = epoch.accepted s.queue r }

-- the command of a request that leaves
abbrev pub command_of : EpochState → Waiting → Command
command_of queue w = command_of_request w.request (leaves_flagged queue w)

-- the request that was picked is sent out as a command of its own; where none was, nothing changes
abbrev pub sent : SchedState → Option Waiting → SchedState
sent s None = s
sent s (Some w) = record s { sent_out = s.sent_out ++ command_of s.queue w ∷ []; queue = departed s.queue (Some w) }

-- a pick that is not below the eligible list's length changes nothing
abbrev pub dispatched : SchedState → ℕ → SchedState
dispatched s pick = sent s (picked s.queue pick)

-- ---- what is seen of it

-- the ids of the requests that wait
abbrev pub waiting_ids : EpochState → List ℕ
waiting_ids queue = map (λ (w : Waiting). w.request.id) queue.waiting

abbrev pub seen_of : SchedState → SchedSeen
seen_of s = record { limit = s.limit; capacity = s.queue.capacity; accepted = s.accepted; waiting = waiting_ids s.queue; blocked = is_blocked s.queue; sent_out = s.sent_out }

-- a pick is a place among the requests that may leave, in order of acceptance
abbrev pub sched_steps : SchedSteps SchedState
sched_steps = record {
  seen = seen_of;
  can_accept = λ s. can_accept s.queue;
  accepted = accepted;
  eligible = λ s. length (eligible s.queue.waiting);
  command = λ s pick. option_map (command_of s.queue) (picked s.queue pick);
  dispatched = dispatched;
}
