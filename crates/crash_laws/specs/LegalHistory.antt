-- The history of a session: which calls its threads began and ended, with which replies, and which such histories
-- are legal.
--
-- The entry at place p, counted from 0, has the number p + 1. No node of the tree that was opened has a birth above `first`,
-- and the birth of each other node is `first` and the number of the entry that made it. In a session on a new volume that
-- tree is the root alone, whose birth is 0, as is `first`.
use Rattle.std.specs.Prelude.{◌≡◌, ◌≢◌, ℕ, ◌+◌, ◌<◌, ◌==◌, ◌⊎◌, Bool, true, false, List, [], ◌∷◌, ◌++◌, filter, length, take, Some, None, if◌then◌else◌}
use Rattle.std.specs.List.{slice_get}
use Rattle.tree_model.specs.declared.call.Call.{Call}
use Rattle.tree_model.specs.declared.call.Call.TheVariants as calls
use Rattle.tree_model.specs.declared.call.Reply.{Reply}
use Rattle.tree_model.specs.declared.call.Reply.TheVariants as replies
use Rattle.tree_model.specs.declared.call.Room.{Room}
use Rattle.tree_model.specs.declared.node.Node.TheVariants as nodes
use Rattle.tree_model.specs.Calls.{Tree, reply_of}
use Rattle.tree_model.specs.Histories.{Entry, tree_after_entries}

-- a thread begins a barrier or sync call, which it then waits for; or a call of a thread ends with its reply
pub data Event : Type 0 where
  Begin : ℕ → Call → Event
  End : ℕ → Call → Reply → Event

abbrev pub thread_of : Event → ℕ
thread_of (Begin t c) = t
thread_of (End t c r) = t

-- ---- calls and replies

-- what a thread waits for
abbrev pub is_waiting : Call → Bool
is_waiting (calls.Fsync path) = true
is_waiting (calls.Fdatasync path) = true
is_waiting (calls.Fbarrier path) = true
is_waiting (calls.Fdatabarrier path) = true
is_waiting calls.Sync = true
is_waiting other = false

-- what changes nothing
abbrev pub is_reading : Call → Bool
is_reading (calls.Read path off len) = true
is_reading (calls.List path) = true
is_reading (calls.Stat path) = true
is_reading other = false

-- the replies that no tree gives: the device failed or is off, or the session has no more requests
abbrev pub is_turned_away : Reply → Bool
is_turned_away replies.Down = true
is_turned_away (replies.ReadOnly id) = true
is_turned_away replies.SessionFull = true
is_turned_away other = false

-- ---- what the tree sees

-- whether the thread has begun a call that did not end, where it had before these events or not
abbrev pub has_begun : ℕ → Bool → List Event → Bool
has_begun t before [] = before
has_begun t before (Begin u c ∷ events) = has_begun t (if u == t then true else before) events
has_begun t before (End u c r ∷ events) = has_begun t (if u == t then false else before) events

-- the call that is done at this event, after these: none where a call begins, where one that had begun ends, and where
-- a call is turned away
abbrev pub done_at : List Event → Event → Entry
done_at before (Begin t c) = None
done_at before (End t c r) = if has_begun t false before then None else if is_turned_away r then None else Some c

-- one for each of these events, which stand behind the others
abbrev pub done_from : List Event → List Event → List Entry
done_from before [] = []
done_from before (e ∷ events) = done_at before e ∷ done_from (before ++ e ∷ []) events

-- one for each event, so that both have the same numbers
abbrev pub done_by : List Event → List Entry
done_by events = done_from [] events

-- the root alone, as in a new volume with names of this width
abbrev pub root_alone : ℕ → Tree
root_alone width = (0, nodes.Directory (record { parent = 0; width = width; slots = 2; names = [] })) ∷ []

-- the tree after the entries numbered up to n
abbrev pub tree_up_to : Room → Tree → ℕ → List Event → ℕ → Tree
tree_up_to room opened first events n = tree_after_entries room opened first (done_by events) n

-- ---- legal histories

-- the events of one thread are the calls of its program, from the first on: each ends at once, or begins and ends later
abbrev pub Follows : List Event → List Call → Type 0
Follows [] program = Unit {0}
Follows (Begin t c ∷ []) (d ∷ program) = c ≡ d
Follows (Begin t c ∷ End u e r ∷ events) (d ∷ program) = (c ≡ d) × (e ≡ d) × Follows events program
Follows (End t c r ∷ events) (d ∷ program) = (c ≡ d) × Follows events program
Follows other program = ⊥

abbrev pub of_thread : ℕ → List Event → List Event
of_thread t = filter (λ e. thread_of e == t)

-- The reply of a call that ends at once: what the tree before gives, or it is turned away. A barrier or sync call that
-- is done does not end at once, and a reading call is turned away only where the device is off.
pub record IsReply (room : Room) (tree : Tree) (n : ℕ) (c : Call) (r : Reply) : Type 0 where
  pub given : (r ≡ reply_of room tree n c) ⊎ (is_turned_away r ≡ true)
  pub waits : is_waiting c ≡ true → r ≢ replies.Ok
  pub reads : is_reading c ≡ true → is_turned_away r ≡ true → r ≡ replies.Down

-- the thread of the event at place i has begun a call before it
abbrev pub IsBegun : List Event → ℕ → ℕ → Type 0
IsBegun events i t = has_begun t false (take i events) ≡ true

-- the threads do the calls of their programs in order, and the tree before a call answers it, or it is turned away
pub record IsLegal (room : Room) (opened : Tree) (first : ℕ) (programs : ℕ → List Call) (events : List Event) : Type 0 where
  pub programs_followed : (t : ℕ) → Follows (of_thread t events) (programs t)
  -- a call that ends at once
  pub at_once : (i t : ℕ) (c : Call) (r : Reply) → slice_get events i ≡ Some (End t c r) → (IsBegun events i t → ⊥) → IsReply room (tree_up_to room opened first events i) (first + (i + 1)) c r
  -- a call begins where the tree does not refuse it, and then is done or turned away
  pub begins : (i t : ℕ) (c : Call) → slice_get events i ≡ Some (Begin t c) → (is_waiting c ≡ true) × (reply_of room (tree_up_to room opened first events i) (first + (i + 1)) c ≡ replies.Ok)
  pub ends : (i t : ℕ) (c : Call) (r : Reply) → slice_get events i ≡ Some (End t c r) → IsBegun events i t → (r ≡ replies.Ok) ⊎ (is_turned_away r ≡ true)
  -- behind a reply that the device is off or failed, no other is given
  pub down : (i j t u : ℕ) (c d : Call) (r : Reply) → i < j → slice_get events i ≡ Some (End t c replies.Down) → slice_get events j ≡ Some (End u d r) → r ≡ replies.Down
  pub read_only : (i j t u id : ℕ) (c d : Call) (r : Reply) → i < j → slice_get events i ≡ Some (End t c (replies.ReadOnly id)) → slice_get events j ≡ Some (End u d r) → is_reading d ≡ false
      → (r ≡ replies.ReadOnly id) ⊎ (r ≡ replies.Down)

-- what one event more owes
pub record EventClause (room : Room) (opened : Tree) (first : ℕ) (programs : ℕ → List Call) (events : List Event) (e : Event) : Type 0 where
  pub followed : Follows (of_thread (thread_of e) (events ++ e ∷ [])) (programs (thread_of e))
  pub at_once : (t : ℕ) (c : Call) (r : Reply) → e ≡ End t c r → (has_begun t false events ≡ true → ⊥) → IsReply room (tree_up_to room opened first events (length events)) (first + (length events + 1)) c r
  pub begins : (t : ℕ) (c : Call) → e ≡ Begin t c → (is_waiting c ≡ true) × (reply_of room (tree_up_to room opened first events (length events)) (first + (length events + 1)) c ≡ replies.Ok)
  pub ends : (t : ℕ) (c : Call) (r : Reply) → e ≡ End t c r → has_begun t false events ≡ true → (r ≡ replies.Ok) ⊎ (is_turned_away r ≡ true)
  pub down : (i t u : ℕ) (c d : Call) (r : Reply) → slice_get events i ≡ Some (End t c replies.Down) → e ≡ End u d r → r ≡ replies.Down
  pub read_only : (i t u id : ℕ) (c d : Call) (r : Reply) → slice_get events i ≡ Some (End t c (replies.ReadOnly id)) → e ≡ End u d r → is_reading d ≡ false
      → (r ≡ replies.ReadOnly id) ⊎ (r ≡ replies.Down)
