-- The elevator: requests leave in rising order of block from where the last command ended, then from the
-- lowest block on (circular LOOK), and puts of consecutive blocks leave in one command.
use Rattle.std.specs.Prelude.{ℕ, ◌+◌, ◌-◌, ◌==◌, ◌++◌, ◌||◌, ◌&&◌, not, zero, suc, Bool, false, List, [], ◌∷◌, length, nat_lt, find, Option, Some, slice_get, if◌then◌else◌}
use Rattle.std.specs.Option.{option_map, option_map_or}
use Rattle.order_model.specs.declared.part.Part.{Part}
use Rattle.order_model.specs.declared.command.Command.{Command}
use Rattle.order_model.specs.declared.command.Priority.TheVariants.{Ordered}
use Rattle.order_model.specs.declared.request.Kind.{Kind}
use Rattle.order_model.specs.declared.request.Kind.TheVariants.{Put, Flush}
use Rattle.order_model.specs.declared.request.Request.{Request}
use Rattle.order_model.specs.Single.{parts_for}
use Rattle.order_model.specs.Carrying.{SchedSeen}
use Rattle.schedulers.specs.declared.reassign.closing.Closing.TheVariants as closings
use Rattle.schedulers.specs.reassign.Epoch as epoch
use Rattle.schedulers.specs.reassign.Epoch.{EpochState, Waiting, can_accept, is_blocked, eligible, departed, leaves_flagged}
use Rattle.schedulers.specs.reassign.Sched.{command_of, waiting_ids}
use Rattle.schedulers.specs.reassign.Scheduler.{SchedSteps}

-- an elevator: what it accepted and sent out, the requests that wait, and where its head stands
pub record ElevatorState : Type 0 where
  -- how many requests it may accept in all
  pub limit : ℕ
  -- what it accepted, as it was submitted, and what it sent out
  pub accepted : List Request
  pub sent_out : List Command
  pub queue : EpochState
  -- the block behind the last part that was sent
  pub head : ℕ

-- ---- the list

-- the block of a put; a flush counts as block 0
abbrev pub block_of : Kind → ℕ
block_of (Put block body) = block
block_of Flush = 0

-- The head meets block a before block b: it goes up from where it is, and from the highest block to the
-- lowest one.
abbrev pub meets_before : ℕ → ℕ → ℕ → Bool
meets_before head a b = if nat_lt a head then nat_lt a b && nat_lt b head else (nat_lt b head || nat_lt a b)

-- w stands before the first request that the head meets after it
abbrev pub placed : ℕ → Waiting → List Waiting → List Waiting
placed head w [] = w ∷ []
placed head w (v ∷ vs) = if meets_before head (block_of w.request.kind) (block_of v.request.kind) then w ∷ v ∷ vs else v ∷ placed head w vs

-- the requests in the order in which the head meets their blocks
abbrev pub in_order : ℕ → List Waiting → List Waiting
in_order head [] = []
in_order head (w ∷ ws) = placed head w (in_order head ws)

-- the requests that may leave, in the order in which the head meets them
abbrev pub listed : ℕ → List Waiting → List Waiting
listed head waiting = in_order head (eligible waiting)

-- the request at place pick of the list
abbrev pub picked : ElevatorState → ℕ → Option Waiting
picked s pick = slice_get (listed s.head s.queue.waiting) pick

-- ---- what leaves together

-- requests that leave, as one command, and the queue behind them
pub record Gathering : Type 0 where
  pub queue : EpochState
  pub command : Command

-- a put of this block
abbrev pub is_put_of : ℕ → Kind → Bool
is_put_of block (Put b body) = b == block
is_put_of block Flush = false

-- the request is order-preserving exactly where the flag says so
abbrev pub has_class : Bool → Request → Bool
has_class ordered r = if ordered then r.ordered else not r.ordered

-- the request is a put of this block and of this class
abbrev pub joins : ℕ → Bool → Waiting → Bool
joins block ordered w = is_put_of block w.request.kind && has_class ordered w.request

-- the put of this block and class that may leave
abbrev pub next_part : EpochState → ℕ → Bool → Option Waiting
next_part queue block ordered = find (joins block ordered) (eligible queue.waiting)

-- the request becomes the last part; where it leaves as the barrier, the command is ORDERED and a barrier
abbrev pub joined : Command → Request → Bool → Command
joined c r flagged = record {
  parts = c.parts ++ parts_for r.id r.kind;
  priority = (if flagged then Ordered else c.priority);
  barrier = c.barrier || flagged;
  flush = c.flush;
}

-- a request leaves the queue and joins the command
abbrev pub taken : Gathering → Waiting → Gathering
taken g w = record { queue = departed g.queue (Some w); command = joined g.command w.request (leaves_flagged g.queue w) }

-- up to n puts of this class join, of this block and the following ones, as long as there is one
unfoldable pub gathered : ℕ → Bool → ℕ → Gathering → Gathering
gathered zero ordered block g = g
gathered (suc n) ordered block g = option_map_or (λ w. gathered n ordered (block + 1) (taken g w)) (next_part g.queue block ordered) g

-- a request leaves as a command of its own
abbrev pub alone : EpochState → Waiting → Gathering
alone queue w = record { queue = departed queue (Some w); command = command_of queue w }

-- a put takes up to 15 others with it
abbrev pub leaving_as : EpochState → Waiting → Kind → Gathering
leaving_as queue w (Put block body) = gathered 15 w.request.ordered (block + 1) (alone queue w)
leaving_as queue w Flush = alone queue w

-- a request leaves, a put with those that join it
abbrev pub leaving_with : EpochState → Waiting → Gathering
leaving_with queue w = leaving_as queue w w.request.kind

-- ---- the steps

-- the block behind the last part; a flush, which has none, leaves the head where it is
abbrev pub head_after : ℕ → List Part → ℕ
head_after head parts = option_map_or (λ (p : Part). p.block + 1) (slice_get parts (length parts - 1)) head

-- an elevator that accepted nothing yet
abbrev pub opened : ℕ → ℕ → ElevatorState
opened limit capacity = record { limit = limit; accepted = []; sent_out = []; queue = record { capacity = capacity; next = 0; waiting = []; closing = closings.Open }; head = 0 }

-- the request is kept in the history as it was submitted, and waits
abbrev pub accepted : ElevatorState → Request → ElevatorState
accepted s r = record s { accepted = s.accepted ++ r ∷ []; queue = epoch.accepted s.queue r }

-- the command is sent out, and the head stands behind its last part
abbrev pub sent_as : ElevatorState → Gathering → ElevatorState
sent_as s g = record s { sent_out = s.sent_out ++ g.command ∷ []; queue = g.queue; head = head_after s.head g.command.parts }

-- a pick that is not below the list's length changes nothing
abbrev pub dispatched : ElevatorState → ℕ → ElevatorState
dispatched s pick = option_map_or (λ w. sent_as s (leaving_with s.queue w)) (picked s pick) s

abbrev pub seen_of : ElevatorState → SchedSeen
seen_of s = record { limit = s.limit; capacity = s.queue.capacity; accepted = s.accepted; waiting = waiting_ids s.queue; blocked = is_blocked s.queue; sent_out = s.sent_out }

-- a pick is a place among the requests that may leave, in the order in which the head meets them
abbrev pub elevator_steps : SchedSteps ElevatorState
elevator_steps = record {
  seen = seen_of;
  can_accept = λ s. can_accept s.queue;
  accepted = accepted;
  eligible = λ s. length (listed s.head s.queue.waiting);
  command = λ s pick. option_map (λ w. (leaving_with s.queue w).command) (picked s pick);
  dispatched = dispatched;
}
