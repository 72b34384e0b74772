-- Why the calls of a session end as they do, by the header of its script and by what its device did.
use Rattle.std.specs.Prelude.{◌≡◌, ℕ, ◌+◌, ◌<◌, length, Some, None}
use Rattle.blk_base.specs.Members.{In}
use Rattle.order_model.specs.declared.completion.Completion.TheVariants as completions
use Rattle.order_model.specs.Device.{Seen, IsUnmoved}
use Rattle.tree_model.specs.declared.call.Call.{Call}
use Rattle.tree_model.specs.declared.call.Reply.{Reply}
use Rattle.tree_model.specs.Calls.{reply_of}
use Rattle.volume_steps.specs.Now.{VolumeNow, room_of}
use Rattle.flush_actor.specs.Part.{first_failed}
pub use Rattle.host_machine.specs.State.{Ending, Answered, Down, ReadOnly, SessionFull}
use Rattle.host_machine.specs.State.{Host}
use Rattle.minix_host.specs.Sessions.{Opening}
pub use Rattle.call_sessions.specs.promises.Entries.{EndsAt}
use Rattle.call_sessions.specs.promises.Entries.{IsBeginOf}
use Rattle.call_sessions.specs.promises.Trees.{tree_at}
use Rattle.session_grammar.specs.declared.session_script.SessionScript.{SessionScript}
use Rattle.session_core.specs.Core.{EndState, opening_of}

-- The script has a line `fail`, and the transfer of that number was made, as the last one: it failed. This request is the first
-- that the device sent as failed; it is one of a command of which no part was transferred.
pub record IsFirstFailed (s : SessionScript) (d : Seen) (id : ℕ) : Type 0 where
  pub transfer : s.header.fail ≡ Some d.transfers_made
  pub first : first_failed d.sent ≡ Some id
  pub unmoved : IsUnmoved d id

-- The script has a line `cut`, the device made as many steps as it says, and sent that the power went.
pub record HasGoneOff (s : SessionScript) (d : Seen) : Type 0 where
  pub steps : s.header.cut ≡ Some d.steps
  pub told : In completions.Cut d.sent

-- All requests that there may be were submitted.
abbrev pub IsAtLimit : SessionScript → EndState → Type 0
IsAtLimit s end = length end.host.journal.flush.requests ≡ s.header.limit

-- The reply is what the tree says to a call: to this one before entry i, or, of a call that began, where it began.
pub data IsTreesReply (s : Opening) (h : Host VolumeNow Call Reply) (i t : ℕ) (c : Call) (r : Reply) : Type 0 where
  AtItsEnd : r ≡ reply_of (room_of s.geometry) (tree_at s h i) (s.first + (i + 1)) c → IsTreesReply s h i t c r
  AtItsBegin : (b : ℕ) → IsBeginOf h.history b i t c → r ≡ reply_of (room_of s.geometry) (tree_at s h b) (s.first + (b + 1)) c → IsTreesReply s h i t c r

-- Why a call of thread t that ends so as entry i does.
abbrev pub HasCause : SessionScript → EndState → ℕ → ℕ → Call → Ending Reply → Type 0
HasCause s end i t c (Answered reply) = IsTreesReply (opening_of s) end.host i t c reply
HasCause s end i t c Down = HasGoneOff s end.dev
HasCause s end i t c (ReadOnly id) = IsFirstFailed s end.dev id
HasCause s end i t c SessionFull = IsAtLimit s end

-- Nothing stops a session that ended so: its script has neither a line `fail` nor a line `cut`, and it may submit more.
pub record RanFreely (s : SessionScript) (end : EndState) : Type 0 where
  pub fail : s.header.fail ≡ None
  pub cut : s.header.cut ≡ None
  pub limit : length end.host.journal.flush.requests < s.header.limit

-- The call ends with a reply of the tree.
pub record EndsByTree (s : Opening) (h : Host VolumeNow Call Reply) (i t : ℕ) (c : Call) (e : Ending Reply) : Type 0 where
  pub reply : Reply
  pub answered : e ≡ Answered reply
  pub tree : IsTreesReply s h i t c reply
