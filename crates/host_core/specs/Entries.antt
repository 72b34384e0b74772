-- What a host notes of calls, as the machine has it.
use Rattle.std.specs.Prelude.{◌≡◌, ℕ, ◌-◌, ◌≤◌, ◌<◌, ◌==◌, ◌&&◌, Bool, true, false, List, [], count_by, length, slice_get, take, unwrap_or, Some}
use Rattle.tree_model.specs.declared.call.Call.{Call}
use Rattle.tree_model.specs.declared.call.Call.TheVariants.{Sync}
use Rattle.tree_model.specs.declared.call.Reply.{Reply}
use Rattle.tree_model.specs.declared.call.Reply.TheVariants as replies
use Rattle.host_machine.specs.State as machine
use Rattle.host_answers.specs.declared.entry.Entry.{Entry}
use Rattle.host_answers.specs.declared.entry.EntryKind.{EntryKind}
use Rattle.host_answers.specs.declared.entry.EntryKind.TheVariants.{Begin, End}

-- what ended a call stands as its reply
abbrev pub ending_of : Reply → machine.Ending Reply
ending_of replies.Down = machine.Down
ending_of (replies.ReadOnly id) = machine.ReadOnly id
ending_of replies.SessionFull = machine.SessionFull
ending_of other = machine.Answered other

-- that a call begins, or what ended it
abbrev pub what_of : EntryKind → machine.What Reply
what_of Begin = machine.Begins
what_of (End reply) = machine.Ends (ending_of reply)

-- the call at a place of a thread's program
abbrev pub call_in : List (List Call) → ℕ → ℕ → Call
call_in programs t at = unwrap_or (slice_get (unwrap_or (slice_get programs t) []) at) Sync

-- the machine counts threads from 0
abbrev pub entry_in : List (List Call) → Entry → machine.Entry Call Reply
entry_in programs e = record { thread = e.thread - 1; call = call_in programs (e.thread - 1) e.call; what = what_of e.what }

abbrev pub is_end : EntryKind → Bool
is_end Begin = false
is_end (End reply) = true

-- how many calls of a thread these entries end
abbrev pub ended_by : List Entry → ℕ → ℕ
ended_by entries t = count_by (λ e. is_end e.what && e.thread == t) entries

-- Behind these entries, this one is of a thread that is there, counted from 1, and of its next call: the first that they do
-- not end.
pub record IsPlaced (programs : List (List Call)) (before : List Entry) (e : Entry) : Type 0 where
  pub thread : 1 ≤ e.thread
  pub program : List Call
  pub own : slice_get programs (e.thread - 1) ≡ Some program
  pub there : e.call < length program
  pub next : e.call ≡ ended_by before e.thread

-- each entry of a history is so, behind those before it
abbrev pub ArePlaced : List (List Call) → List Entry → Type 0
ArePlaced programs history = (n : ℕ) (e : Entry) → slice_get history n ≡ Some e → IsPlaced programs (take n history) e
