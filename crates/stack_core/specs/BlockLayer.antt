-- The block layer as plain values: a scheduler between two queues, and the events of host and scheduler as steps
-- over them.
use Rattle.std.specs.Prelude.{ℕ, ◌+◌, ◌++◌, List, [], ◌∷◌, length, nat_lt, Option, Some, None, if◌then◌else◌, slice_get}
use Rattle.order_model.specs.declared.command.Command.{Command}
use Rattle.order_model.specs.declared.request.Request.{Request}
use Rattle.schedulers.specs.reassign.Scheduler.{SchedSteps}

-- the queues before and behind the scheduler
pub record QueuesState : Type 0 where
  -- how many requests were submitted
  pub next : ℕ
  -- the most items that each queue holds
  pub capacity : ℕ
  -- the requests in the submission queue, first in first
  pub submission : List Request
  -- the command that found the dispatch queue full
  pub kept : Option Command
  -- the commands in the dispatch queue, first in first
  pub dispatched : List Command

-- the block layer: the queues, and the scheduler between them
pub record BlockLayer (K : Type 0) : Type 0 where
  pub queues : QueuesState
  pub sched : K

-- nothing was submitted
abbrev pub opened_queues : ℕ → QueuesState
opened_queues capacity = record { next = 0; capacity = capacity; submission = []; kept = None; dispatched = [] }

-- ---- submit

-- the request goes into the submission queue as the last one; where none is left, nothing changes
abbrev pub with_request : QueuesState → Option Request → QueuesState
with_request s None = s
with_request s (Some r) = record s { next = s.next + 1; submission = s.submission ++ r ∷ [] }

-- the next request goes into the submission queue, unless it is full
abbrev pub submitted : List Request → QueuesState → QueuesState
submitted requests s = if nat_lt (length s.submission) s.capacity then with_request s (slice_get requests s.next) else s

-- ---- accept

-- the first request of the submission queue goes to the scheduler; where there is none, nothing changes
abbrev pub accepted_first : {K : Type 0} → SchedSteps K → BlockLayer K → List Request → BlockLayer K
accepted_first k r [] = r
accepted_first k r (q ∷ qs) = record { queues = record r.queues { submission = qs }; sched = k.accepted r.sched q }

-- where the scheduler can accept, it takes one request from the submission queue
abbrev pub layer_accepted : {K : Type 0} → SchedSteps K → BlockLayer K → BlockLayer K
layer_accepted k r = if k.can_accept r.sched then accepted_first k r r.queues.submission else r

-- ---- dispatch

-- the command goes into the dispatch queue; where that is full, it is kept
abbrev pub queued_or_kept : QueuesState → Command → QueuesState
queued_or_kept s c =
    if nat_lt (length s.dispatched) s.capacity then record s { kept = None; dispatched = s.dispatched ++ c ∷ [] }
    else record s { kept = Some c }

-- where there is no command, nothing changes
abbrev pub queued_or_kept_option : QueuesState → Option Command → QueuesState
queued_or_kept_option s None = s
queued_or_kept_option s (Some c) = queued_or_kept s c

-- the scheduler sends out the command of its pick
abbrev pub layer_picked : {K : Type 0} → SchedSteps K → BlockLayer K → ℕ → BlockLayer K
layer_picked k r pick = record { queues = queued_or_kept_option r.queues (k.command r.sched pick); sched = k.dispatched r.sched pick }

-- the command that is kept is tried again; only where there is none, the scheduler sends out that of its pick
abbrev pub dispatched_from : {K : Type 0} → SchedSteps K → BlockLayer K → ℕ → Option Command → BlockLayer K
dispatched_from k r pick (Some c) = record { queues = queued_or_kept r.queues c; sched = r.sched }
dispatched_from k r pick None = layer_picked k r pick

-- the command that is kept is sent, and no other one is taken then; or else the scheduler's pick
abbrev pub layer_dispatched : {K : Type 0} → SchedSteps K → BlockLayer K → ℕ → BlockLayer K
layer_dispatched k r pick = dispatched_from k r pick r.queues.kept

-- ---- receive

-- the first command of the dispatch queue, and what is left
abbrev pub given_first : QueuesState → List Command → Option (Command × QueuesState)
given_first s [] = None
given_first s (c ∷ cs) = Some (c, record s { dispatched = cs })
