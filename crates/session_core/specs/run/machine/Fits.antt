-- How the parts of a session fit: what each one took is a prefix of what the one before it gave.
use Rattle.std.specs.Prelude.{◌≡◌, ℕ, ◌+◌, ◌<◌, ◌≤◌, ◌++◌, true, List, [], ◌∷◌, length, Option}
use Rattle.std.specs.Option.{option_to_list}
use Rattle.order_model.specs.declared.command.Command.{Command}
use Rattle.order_model.specs.declared.completion.Completion.{Completion}
use Rattle.order_model.specs.declared.request.Request.{Request}
use Rattle.order_model.specs.Carrying.{SchedSeen}
use Rattle.order_model.specs.Device.{Seen, IsReceivable, IsSurface}
use Rattle.order_model.specs.Machine.{Machine}
use Rattle.order_model.specs.Steps.{Receives, Transfers, Persists, Answers}
use Rattle.schedulers.specs.reassign.Scheduler.{SchedSteps, IsNewScheduler}
use Rattle.stack_core.specs.BlockLayer.{QueuesState}
use Rattle.stack_core.specs.RequestPath.{AreRequests}
use Rattle.host_machine.specs.State.{Host}
use Rattle.minix_host.specs.Sessions.{Opening}
use Rattle.session_core.specs.run.machine.Machine.{SessionState, Start}

-- what the steps of a device keep, from any state that it may be in
pub record IsDevice {S : Type 0} (m : Machine S) (valid : S → Type 0) : Type 0 where
  -- while it has room, it receives each command that it may be given
  pub receives : (s : S) (c : Command) → valid s → IsReceivable (m.seen s) c → m.has_room s ≡ true → valid (m.received s c) × Receives (m.seen s) c (m.seen (m.received s c))
  -- a pick that is there is transferred, or its transfer fails
  pub transfers : (s : S) (pick : ℕ) → valid s → pick < m.can_transfer s → valid (m.transferred s pick) × Transfers (m.seen s) (m.seen (m.transferred s pick))
  -- a write to the medium, of a pick that is there, leaves what was transferred as it is
  pub persists : (s : S) (pick : ℕ) → valid s → pick < m.can_persist s → valid (m.persisted s pick) × Persists (m.seen s) (m.seen (m.persisted s pick))
  -- a pick that is not there changes nothing
  pub no_transfer : (s : S) (pick : ℕ) → m.can_transfer s ≤ pick → m.transferred s pick ≡ s
  pub no_persist : (s : S) (pick : ℕ) → m.can_persist s ≤ pick → m.persisted s pick ≡ s
  -- it hands out its next completion, or none
  pub answers : (s : S) → valid s → valid (m.answered s) × Answers (m.seen s) (m.next_answer s) (m.seen (m.answered s))
  -- each block holds the body of a part that was transferred, or what the device was made with
  pub surface : (s : S) → valid s → IsSurface (m.seen s)

-- Requests on their way: what was submitted was accepted or waits to be; what was sent out was taken, waits to be, or is
-- kept. No more are submitted than the limit says, which scheduler and device allow.
pub record RequestsFit (requests : List Request) (limit : ℕ) (q : QueuesState) (p : SchedSeen) (d : Seen) : Type 0 where
  -- the queues count the requests that were submitted
  pub counted : q.next ≡ length requests
  pub submitted : p.accepted ++ q.submission ≡ requests
  pub sent : p.sent_out ≡ d.took ++ q.dispatched ++ option_to_list q.kept
  -- the request at place i has the id i, its block is there, and a barrier keeps the order
  pub fitting : AreRequests (length d.base) requests
  pub few : length requests ≤ limit
  pub scheduler : p.limit ≡ limit
  pub device : limit ≤ d.limit

-- Completions on their way: what the device sent was taken, waits to be, or is kept.
abbrev pub CompletionsFit : List Completion → List Completion → Option Completion → Seen → Type 0
CompletionsFit taken completions kept d = d.sent ≡ taken ++ completions ++ option_to_list kept

-- no queue holds more than it can
pub record WithinCapacity (q : QueuesState) (completions : List Completion) : Type 0 where
  pub submission : length q.submission ≤ q.capacity
  pub dispatched : length q.dispatched ≤ q.capacity
  pub completions_are : length completions ≤ q.capacity

-- The parts of a session fit: each has taken a prefix of what the one before it sent, and no queue holds more than it may.
pub record SessionFits {K S : Type 0} (k : SchedSteps K) (m : Machine S) (r : SessionState K S) : Type 0 where
  pub requests : RequestsFit r.host.journal.flush.requests r.host.journal.flush.limit r.queues (k.seen r.sched) (m.seen r.dev)
  pub completions : CompletionsFit r.host.journal.flush.taken r.completions r.kept (m.seen r.dev)
  pub capacity : WithinCapacity r.queues r.completions
  -- the host takes at most one completion more than it may submit requests
  pub taken : length r.host.journal.flush.taken ≤ r.host.journal.flush.limit + 1

-- A session can start: the device is one of the session's image, volume and log, it took and sent nothing yet, and it may
-- take as many ids as the session may have requests; so may the scheduler, which is new, however many may wait in it.
pub record CanStart (s : Opening) (b : Start) (p : SchedSeen) (d : Seen) : Type 0 where
  pub image : d.base ≡ s.image
  -- volume and log are within the image
  pub blocks : s.geometry.zones + b.ring.places.past ≤ length s.image
  pub took : d.took ≡ []
  pub sent : d.sent ≡ []
  pub ids : b.limit ≤ d.limit
  pub scheduler : IsNewScheduler b.limit p.capacity p

-- the host submitted one request more
pub record SubmitsOne {V C R : Type 0} (old new : Host V C R) : Type 0 where
  pub request : Request
  pub more : new.journal.flush.requests ≡ old.journal.flush.requests ++ request ∷ []
