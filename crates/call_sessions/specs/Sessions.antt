-- Sessions on a volume over calls as code has them: the same machine as over calls with bytes, and what holds of its runs.
use Rattle.std.specs.Prelude.{ℕ, ◌≤◌, List, length, map, Option}
use Rattle.blk_base.specs.Members.{In}
use Rattle.order_model.specs.OrderClosed.{IsOrderClosed}
use Rattle.log_model.specs.Marks.{Transaction}
use Rattle.tree_model.specs.declared.call.Call.{Call}
use Rattle.tree_model.specs.declared.call.Reply.{Reply}
use Rattle.tree_model.specs.Calls.{Tree}
use Rattle.tree_model.specs.Histories.{tree_after_entries}
use Rattle.volume_ops.specs.Volume.{disk_of}
use Rattle.volume_steps.specs.Now.{VolumeNow, room_of}
use Rattle.crash_laws.specs.Recovery.{IsRecovered}
use Rattle.crash_laws.specs.Session.{Medium}
use Rattle.crash_laws.specs.Volumes.{WalkEnd}
use Rattle.journal_ring.specs.LogRing.{LogRing}
use Rattle.flush_actor.specs.Part.{is_flush_note}
use Rattle.host_machine.specs.Host.{opened}
use Rattle.host_machine.specs.State.{Entry, Host}
use Rattle.host_machine.specs.Views.{cut_of}
use Rattle.host_machine.specs.laws.Contract.{Over, noted_history, session}
use Rattle.host_machine.specs.laws.Rules.{AllRules}
use Rattle.host_machine.specs.runs.Runs.{Event, steps}
use Rattle.host_machine.specs.runs.Sentences.{kept_number, KeepsSentences}
use Rattle.host_machine.specs.runs.Flushes.{count, is_sync_begin}
use Rattle.minix_host.specs.ByteCalls.{ByteCall, HasBytes}
use Rattle.minix_host.specs.Calls.{kind_of}
use Rattle.minix_host.specs.PlainTrees.{PlainTree}
use Rattle.minix_host.specs.Runs.{HasTreeLike, acting}
pub use Rattle.call_sessions.specs.made.MadeSessions.{made_now, made_opening, made_ring}
use Rattle.minix_host.specs.Sessions.{Opening, model_from, over, Stands}
use Rattle.call_sessions.specs.CallsAs.{host_as}

-- the calls of all programs write bytes
abbrev pub WriteBytes : List (List Call) → Type 0
WriteBytes programs = (program : List Call) (c : Call) → In program programs → In c program → HasBytes c

-- a call, and a host, without the proofs that its calls write bytes
abbrev pub plain_call : ByteCall → Call
plain_call c = c.call

-- the host over calls with a proof, seen as one over calls alone
abbrev pub plain_host : Host VolumeNow ByteCall Reply → Host VolumeNow Call Reply
plain_host h = host_as plain_call h

-- what a session is over
abbrev pub call_over : Opening → Over WalkEnd PlainTree VolumeNow Call Reply
call_over s = record {
  model = model_from (λ (c : Call). c) s.geometry s.tree s.first;
  setup = (over s).setup;
  program = (over s).program;
  place = (over s).place;
  base = s.image;
  format = s.format;
  reserved = (over s).reserved;
  freeable = s.freeable;
}

-- the host of a session that is opened, and that after these steps
abbrev pub opened_with : Opening → VolumeNow → LogRing → ℕ → List (List Call) → Host VolumeNow Call Reply
opened_with s v ring limit programs = opened (call_over s).model (call_over s).setup v ring s.geometry.zones limit programs

-- the host after these steps, from where it was opened on this volume
abbrev pub host_behind : Opening → VolumeNow → LogRing → ℕ → List (List Call) → List Event → Host VolumeNow Call Reply
host_behind s v ring limit programs events = steps (call_over s) (opened_with s v ring limit programs) events

-- the call of an entry that acts on the tree, as the tree model has it
abbrev pub acting_call : Entry Call Reply → Option Call
acting_call e = acting (λ c. c) e

-- the tree after the calls of the first k transactions
abbrev pub tree_behind : Opening → Host VolumeNow Call Reply → ℕ → Tree
tree_behind s h k = tree_after_entries (room_of s.geometry) s.tree.tree s.first (map acting_call h.history) (cut_of h.cuts (length h.history) k)

-- What holds of a session: `closed` are the bodies and revokes of its closed transactions.
pub record KeepsCalls (s : Opening) (h : Host VolumeNow Call Reply) : Type 0 where
  pub closed : List Transaction
  -- the submitted list keeps all order rules
  pub rules : AllRules (call_over s).program (noted_history (call_over s) (Stands s) h.history h.cuts) (session (call_over s) (Stands s) closed h)
  -- what a power cut leaves: a prefix of the transactions, versions of file blocks, and what barrier and sync calls promise
  pub sentences : KeepsSentences (call_over s) (Stands s) h closed
  -- the volume that is recovered has the tree after the transactions whose commit block was kept
  pub trees : (m : Medium) (recovered : List (List ℕ)) → IsOrderClosed s.image h.journal.flush.requests m.image m.origins →
      IsRecovered (session (call_over s) (Stands s) closed h) m (disk_of recovered) →
      HasTreeLike s recovered (tree_behind s h (kept_number (call_over s) (Stands s) h closed m))
  -- at most as many flushes were submitted as sync calls have begun
  pub flushes : count is_flush_note h.journal.flush.notes ≤ count (is_sync_begin kind_of) h.history
