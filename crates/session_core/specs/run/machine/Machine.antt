-- A session as one machine: the host, the block layer, the device, and the queue in which completions come back. Each
-- event is a step of one of them; one that cannot act changes nothing.
use Rattle.std.specs.List.{range_with_len}
use Rattle.std.specs.Prelude.{ℕ, ◌+◌, ◌-◌, ◌==◌, zero, suc, not, nat_lt, nat_le, Bool, if◌then◌else◌, List, [], ◌∷◌, ◌++◌, length, map, drop, Option, Some, None, slice_get}
use Rattle.order_model.specs.declared.command.Command.{Command}
use Rattle.order_model.specs.declared.completion.Completion.{Completion}
use Rattle.order_model.specs.declared.request.Request.{Request}
use Rattle.order_model.specs.Machine.{Machine}
use Rattle.schedulers.specs.reassign.Scheduler.{SchedSteps}
use Rattle.stack_core.specs.BlockLayer.{QueuesState, BlockLayer, opened_queues, layer_accepted, layer_dispatched, given_first}
use Rattle.line_grammar.specs.declared.events.event.CoreEvent.{CoreEvent}
use Rattle.line_grammar.specs.declared.events.event.CoreEvent.TheVariants as events
use Rattle.line_grammar.specs.declared.events.event.EventLine.{EventLine}
use Rattle.line_grammar.specs.declared.events.event.EventWord.{EventWord}
use Rattle.line_grammar.specs.declared.events.event.EventWord.TheVariants.{One, Round, Back}
use Rattle.tree_model.specs.declared.call.Call.{Call}
use Rattle.tree_model.specs.declared.call.Reply.{Reply}
use Rattle.volume_steps.specs.Now.{VolumeNow}
use Rattle.journal_ring.specs.LogRing.{LogRing}
use Rattle.flush_actor.specs.Part.{FlushPart}
use Rattle.flush_actor.specs.Outcomes.{sent_between}
use Rattle.flush_actor.specs.Steps.{flush_due}
use Rattle.host_machine.specs.State.{Host}
use Rattle.host_machine.specs.runs.Runs.{Event, stepped}
use Rattle.host_machine.specs.runs.Runs as runs
use Rattle.minix_host.specs.Sessions.{Opening}
use Rattle.call_sessions.specs.Sessions.{call_over, opened_with}

-- all of it; K are the states of the scheduler, S those of the device
pub record SessionState (K S : Type 0) : Type 0 where
  pub host : Host VolumeNow Call Reply
  -- the queues before and behind the scheduler
  pub queues : QueuesState
  pub sched : K
  pub dev : S
  -- completions on their way to the host, first in first, and the one that found this queue full
  pub completions : List Completion
  pub kept : Option Completion

-- a session begins with a volume, the ring of an empty log, at most so many requests, queues of one capacity, and the calls
-- of each thread
pub record Start : Type 0 where
  pub volume : VolumeNow
  pub ring : LogRing
  pub limit : ℕ
  pub capacity : ℕ
  pub programs : List (List Call)

-- a session before its first event: nothing was submitted, and all queues are empty
abbrev pub opened_session : {K S : Type 0} → Opening → Start → K → S → SessionState K S
opened_session s b sched dev = record {
  host = opened_with s b.volume b.ring b.limit b.programs;
  queues = opened_queues b.capacity;
  sched = sched;
  dev = dev;
  completions = [];
  kept = None;
}

-- a queue that holds as many items as it can is full
abbrev pub is_full : {X : Type 0} → ℕ → List X → Bool
is_full capacity items = not (nat_lt (length items) capacity)

-- what the host submitted goes into the submission queue
abbrev pub with_submitted : QueuesState → List Request → QueuesState
with_submitted q requests = record q { next = q.next + length requests; submission = q.submission ++ requests }

-- the completions that a step of the flush actor leaves: where a flush is due, it takes none
abbrev pub left_over : FlushPart → List Completion → List Completion
left_over f completions = if flush_due f then completions else drop 1 completions

module _ {K S : Type 0} where
  -- ---- the host

  -- the queue that the host submits to is full
  abbrev pub submission_full : SessionState K S → Bool
  submission_full r = is_full r.queues.capacity r.queues.submission

  -- a step of the host, and what it submitted goes into the submission queue
  abbrev pub by_host : Opening → SessionState K S → Event → SessionState K S
  by_host s r e =
      let h = stepped (call_over s) r.host e in
      record r { host = h; queues = with_submitted r.queues (sent_between r.host.journal.flush h.journal.flush) }

  -- threads are numbered from 1
  abbrev pub call_step : SessionState K S → ℕ → Event
  call_step r thread = runs.Call (submission_full r) (thread - 1)

  -- the flush actor may take the first completion
  abbrev pub flush_event : SessionState K S → Event
  flush_event r = runs.FlushStep (submission_full r) (slice_get r.completions 0)

  -- the host takes completions up to one more than its limit
  abbrev pub may_flush : SessionState K S → Bool
  may_flush r = nat_le (length r.host.journal.flush.taken) r.host.journal.flush.limit

  -- the flush actor does a step, and the completion that it took leaves the queue
  abbrev pub flushed : Opening → SessionState K S → SessionState K S
  flushed s r = record (by_host s r (flush_event r)) { completions = left_over r.host.journal.flush r.completions }

  -- ---- the block layer

  -- the scheduler with the queues before and after it
  abbrev pub layer_of : SessionState K S → BlockLayer K
  layer_of r = record { queues = r.queues; sched = r.sched }

  -- the session with its block layer in this state
  abbrev pub with_layer : SessionState K S → BlockLayer K → SessionState K S
  with_layer r l = record r { queues = l.queues; sched = l.sched }

  -- ---- the device

  -- a command goes to the device, where there is one
  abbrev pub received : Machine S → SessionState K S → Option (Command × QueuesState) → SessionState K S
  received m r None = r
  received m r (Some g) = record r { queues = g.1; dev = m.received r.dev g.0 }

  -- the completion goes into its queue; where that is full, it is kept
  abbrev pub completed : SessionState K S → Completion → SessionState K S
  completed r c = if is_full r.queues.capacity r.completions then record r { kept = Some c } else record r { completions = r.completions ++ c ∷ []; kept = None }

  -- the completion, where there is one, goes into its queue
  abbrev pub completed_option : SessionState K S → Option Completion → SessionState K S
  completed_option r None = r
  completed_option r (Some c) = completed r c

  -- the completion that is kept is sent, and no other one is handed out then; or else the device's next one
  abbrev pub answered_from : Machine S → SessionState K S → Option Completion → SessionState K S
  answered_from m r (Some c) = completed r c
  answered_from m r None = completed_option (record r { dev = m.answered r.dev }) (m.next_answer r.dev)

  -- ---- events

  module _ (s : Opening) (k : SchedSteps K) (m : Machine S) where
    -- what an event makes of the session; `Submit` changes nothing
    abbrev pub happens : SessionState K S → CoreEvent → SessionState K S
    happens r (events.Call thread) = if thread == 0 then r else by_host s r (call_step r thread)
    happens r events.Commit = by_host s r (runs.Commit (submission_full r))
    happens r (events.Writeback pick) = by_host s r (runs.WriteBack (submission_full r) pick)
    happens r events.FlushStep = if may_flush r then flushed s r else r
    happens r events.Submit = r
    happens r events.Accept = with_layer r (layer_accepted k (layer_of r))
    happens r (events.Dispatch pick) = with_layer r (layer_dispatched k (layer_of r) pick)
    happens r events.Receive = if m.has_room r.dev then received m r (given_first r.queues r.queues.dispatched) else r
    happens r (events.Transfer pick) = record r { dev = m.transferred r.dev pick }
    happens r (events.Persist pick) = record r { dev = m.persisted r.dev pick }
    happens r events.Answer = answered_from m r r.kept

    -- events, one after the other
    unfoldable pub run_events : SessionState K S → List CoreEvent → SessionState K S
    run_events r [] = r
    run_events r (e ∷ es) = run_events (happens r e) es

  -- ---- which steps of the host events are

  -- the step of the host that an event is, where it is one
  abbrev pub host_event : SessionState K S → CoreEvent → List Event
  host_event r (events.Call thread) = if thread == 0 then [] else call_step r thread ∷ []
  host_event r events.Commit = runs.Commit (submission_full r) ∷ []
  host_event r (events.Writeback pick) = runs.WriteBack (submission_full r) pick ∷ []
  host_event r events.FlushStep = if may_flush r then flush_event r ∷ [] else []
  host_event r other = []

  -- the steps of the host in a run
  unfoldable pub host_events : Opening → SchedSteps K → Machine S → SessionState K S → List CoreEvent → List Event
  host_events s k m r [] = []
  host_events s k m r (e ∷ es) = host_event r e ++ host_events s k m (happens s k m r e) es

-- ---- event lines

-- each part of the stack but the threads goes on once
abbrev pub back : List CoreEvent
back = events.Commit ∷ events.FlushStep ∷ events.Accept ∷ events.Dispatch 0 ∷ events.Receive ∷ events.Transfer 0 ∷ events.Persist 0 ∷ events.Answer ∷ []

-- first each of so many threads, in order
abbrev pub round : ℕ → List CoreEvent
round threads = map events.Call (range_with_len 1 threads) ++ back

-- the events that the word of an event line stands for, where so many threads are there
abbrev pub word_events : ℕ → EventWord → List CoreEvent
word_events threads (One e) = e ∷ []
word_events threads Round = round threads
word_events threads Back = back

-- so many copies of a list, one behind the other
abbrev pub repeated : {X : Type 0} → ℕ → List X → List X
repeated zero xs = []
repeated (suc n) xs = xs ++ repeated n xs

-- the events that these lines say, in order
unfoldable pub events_of : ℕ → List EventLine → List CoreEvent
events_of threads [] = []
events_of threads (l ∷ ls) = repeated l.count (word_events threads l.what) ++ events_of threads ls

-- a session on this scheduler and this device
abbrev pub core_session : {K S : Type 0} → Opening → SchedSteps K → Machine S → Start → K → S → List EventLine → SessionState K S
core_session s k m b sched dev lines = run_events s k m (opened_session s b sched dev) (events_of (length b.programs) lines)
