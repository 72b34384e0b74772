-- Barrier and sync calls that were answered Ok: how each began, why it was answered, and what its answer promises.
use Rattle.std.specs.Prelude.{[], ◌⊎◌, ◌≡◌, ℕ, ◌+◌, ◌<◌, ◌≤◌, Bool, true, false, List, length, Some, None, slice_get}
use Rattle.blk_base.specs.Members.{In}
use Rattle.order_model.specs.declared.completion.Completion.{Completion}
use Rattle.order_model.specs.declared.completion.Completion.TheVariants as completions
use Rattle.order_model.specs.declared.note.Note.TheVariants as notes
use Rattle.order_model.specs.OrderClosed.{IsOrderClosed, KeepsFlushed}
use Rattle.tree_model.specs.declared.call.Call.{Call}
use Rattle.tree_model.specs.declared.call.Reply.{Reply}
use Rattle.tree_model.specs.declared.call.Reply.TheVariants as replies
use Rattle.tree_model.specs.Calls.{Tree}
use Rattle.volume_steps.specs.Now.{VolumeNow}
use Rattle.crash_laws.specs.PromiseRules.{CoversNothing, Covers, CoversEntry, KeepsSync, IsLaterKept}
use Rattle.crash_laws.specs.Session.{Medium}
use Rattle.flush_actor.specs.Kinds.{is_begun, is_durable}
use Rattle.host_machine.specs.State.{Answered, Begun, Host}
use Rattle.host_machine.specs.Views.{cut_of}
use Rattle.host_machine.specs.laws.Contract.{noted_history, session}
use Rattle.host_machine.specs.runs.Promises.{call_of, IsAnswered}
use Rattle.host_machine.specs.runs.Sentences.{kept_number, IsAllSettled}
use Rattle.minix_host.specs.Calls.{kind_of, path_of_call, birth_on}
use Rattle.minix_host.specs.Sessions.{Opening, Stands}
use Rattle.call_sessions.specs.Sessions.{call_over, KeepsCalls}
use Rattle.call_sessions.specs.promises.Entries.{EndsAt, IsBeginOf}
use Rattle.call_sessions.specs.promises.Trees.{tree_at}

-- the node that the call is on: where its path leads in this tree
abbrev pub node_in : Tree → Call → ℕ
node_in tree c = elim (path_of_call c) as (λ _. ℕ) [ None ↦ 0 | Some path ↦ birth_on tree path ]

-- a barrier or sync call of thread t is answered Ok at place e
abbrev pub AnsweredAt : Host VolumeNow Call Reply → ℕ → ℕ → Call → Type 0
AnsweredAt h e t c = EndsAt h.history e t c (Answered replies.Ok) × (is_begun (kind_of c) ≡ true)

-- so it began at a place before, on the node to which its path led there; and it has what its answer stands for
pub record WasAnswered (s : Opening) (h : Host VolumeNow Call Reply) (e t : ℕ) (c : Call) : Type 0 where
  pub place : ℕ
  pub began : IsBeginOf h.history place e t c
  -- the begun call, by the number of its entry, its kind and its node
  pub begun : Begun
  pub number : begun.begin ≡ place + 1
  pub kind : begun.kind ≡ kind_of c
  pub node : begun.file ≡ node_in (tree_at s h place) c
  pub holds : IsAnswered (call_over s) (Stands s) h (e + 1) begun

-- A commit block is submitted of a transaction whose last entry lies at or behind place b, and before place e; of a sync
-- call a flush behind it was answered.
pub record HasCommit (h : Host VolumeNow Call Reply) (b e : ℕ) (durable : Bool) : Type 0 where
  pub transaction : ℕ
  -- the request that is its commit block
  pub request : ℕ
  pub commit : slice_get h.journal.flush.notes request ≡ Some (notes.Commit transaction)
  -- the number of its last entry
  pub behind : b + 1 ≤ cut_of h.cuts (length h.history) transaction
  pub before : cut_of h.cuts (length h.history) transaction < e + 1
  pub flushed : durable ≡ true → (f : ℕ) × In (completions.Flushed f) h.journal.flush.taken × (request < f)

-- an Ok of a call that covers metadata
pub record HasOkCause (h : Host VolumeNow Call Reply) (e t : ℕ) (c : Call) : Type 0 where
  pub place : ℕ
  pub began : IsBeginOf h.history place e t c
  -- its cause: such a commit block, and a flush after that for a sync call
  pub commits : HasCommit h place e (is_durable (kind_of c))

-- all that a call covers stands below a flush that was answered; or it covers nothing
abbrev pub IsFlushed : Opening → Host VolumeNow Call Reply → Begun → Type 0
IsFlushed s h b =
    let told = noted_history (call_over s) (Stands s) h.history h.cuts in
    KeepsSync told (session (call_over s) (Stands s) [] h) h.journal.flush.taken (Covers told (call_of b)) (CoversEntry (call_of b)) ⊎ CoversNothing told (call_of b)

-- What the answers of a session promise. `kept` is what its rules keep of a power cut.
pub record KeepsPromises (s : Opening) (h : Host VolumeNow Call Reply) : Type 0 where
  pub kept : KeepsCalls s h
  -- each barrier or sync call that was answered Ok began before, and has what its answer stands for
  pub answered : (e t : ℕ) (c : Call) → AnsweredAt h e t c → WasAnswered s h e t c
  -- a sync call: a flush was answered behind all that it covers; or it covers nothing
  pub flushed : (e t : ℕ) (c : Call) (ok : AnsweredAt h e t c) → is_durable (kind_of c) ≡ true → IsFlushed s h (answered e t c ok).begun
  -- a barrier call: where a write behind its answer survived, all that it covers survived or was superseded
  pub barriers : (m : Medium) (e t : ℕ) (c : Call) (ok : AnsweredAt h e t c) → is_durable (kind_of c) ≡ false → IsOrderClosed s.image h.journal.flush.requests m.image m.origins
      → IsLaterKept (noted_history (call_over s) (Stands s) h.history h.cuts) (session (call_over s) (Stands s) kept.closed h) m (kept_number (call_over s) (Stands s) h kept.closed m) (e + 1)
      → IsAllSettled (call_over s) (Stands s) h kept.closed m (answered e t c ok).begun
  -- a sync call: all that it covers did so in any case, where the device keeps what it has flushed
  pub syncs : (m : Medium) (sent : List Completion) (e t : ℕ) (c : Call) (ok : AnsweredAt h e t c) → is_durable (kind_of c) ≡ true → IsOrderClosed s.image h.journal.flush.requests m.image m.origins
      → KeepsFlushed h.journal.flush.requests m.origins sent → ((x : Completion) → In x h.journal.flush.taken → In x sent)
      → IsAllSettled (call_over s) (Stands s) h kept.closed m (answered e t c ok).begun
