-- The history of a session as the events of which crash_laws says what is legal.
use Rattle.std.specs.Prelude.{◌≡◌, ◌≢◌, ℕ, ◌+◌, true, List, [], map, slice_get, unwrap_or}
use Rattle.tree_model.specs.declared.call.Call.{Call}
use Rattle.tree_model.specs.declared.call.Reply.{Reply}
use Rattle.tree_model.specs.declared.call.Reply.TheVariants as replies
use Rattle.tree_model.specs.Calls.{reply_of}
use Rattle.volume_steps.specs.Now.{VolumeNow, room_of}
use Rattle.crash_laws.specs.LegalHistory.{Event, Begin, End, Follows, of_thread}
use Rattle.flush_actor.specs.Kinds.{is_begun}
use Rattle.host_machine.specs.State.{Ending, Answered, Down, ReadOnly, SessionFull, Begins, Ends, Entry, Host}
use Rattle.minix_host.specs.Calls.{kind_of}
use Rattle.minix_host.specs.Sessions.{Opening}
use Rattle.call_sessions.specs.promises.Entries.{BeginsAt, EndsAt, IsBeginOf}
use Rattle.call_sessions.specs.promises.Trees.{tree_at}

-- the reply that a caller sees
abbrev pub reply_in : Ending Reply → Reply
reply_in (Answered reply) = reply
reply_in Down = replies.Down
reply_in (ReadOnly id) = replies.ReadOnly id
reply_in SessionFull = replies.SessionFull

-- an entry of the history as the event of a legal history: a call begins, or ends with a reply
abbrev pub event_of : Entry Call Reply → Event
event_of e = elim e.what as (λ _. Event) [ Begins ↦ Begin e.thread e.call | Ends x ↦ End e.thread e.call (reply_in x) ]

abbrev pub events_in : List (Entry Call Reply) → List Event
events_in history = map event_of history

-- the calls of thread t; none where there is no such thread
abbrev pub program_of : List (List Call) → ℕ → List Call
program_of programs t = unwrap_or (slice_get programs t) []

-- The history goes by the programs and by the tree.
pub record FollowsTree (s : Opening) (programs : List (List Call)) (h : Host VolumeNow Call Reply) : Type 0 where
  -- the entries of each thread are the calls of its program, from the first on: each ends at once, or begins and ends later
  pub ordered : (t : ℕ) → Follows (of_thread t (events_in h.history)) (program_of programs t)
  -- a call begins where the tree before it does not refuse it
  pub begins : (i t : ℕ) (c : Call) → BeginsAt h.history i t c → (is_begun (kind_of c) ≡ true) × (reply_of (room_of s.geometry) (tree_at s h i) (s.first + (i + 1)) c ≡ replies.Ok)
  -- an answer is the tree's, but for the Ok of a barrier or sync call, which the tree gave where it began
  pub answers : (i t : ℕ) (c : Call) (r : Reply) → EndsAt h.history i t c (Answered r) → (is_begun (kind_of c) ≡ true → r ≢ replies.Ok) → r ≡ reply_of (room_of s.geometry) (tree_at s h i) (s.first + (i + 1)) c
  -- a call that began is answered Ok, or not at all
  pub ends : (b i t : ℕ) (c : Call) (r : Reply) → IsBeginOf h.history b i t c → EndsAt h.history i t c (Answered r) → r ≡ replies.Ok
