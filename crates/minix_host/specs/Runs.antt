-- Sessions on a volume: what they are opened with, and what their histories have of the tree model.
use Rattle.std.specs.Prelude.{◌≡◌, ◌≢◌, ℕ, ◌+◌, ◌<◌, ◌≤◌, ◌⊎◌, true, if◌then◌else◌, List, length, map, Option, Some, None, Ok, []}
use Rattle.blk_base.specs.Members.{In}
use Rattle.log_model.specs.Log.{Commits}
use Rattle.log_model.specs.Marks.{Transaction}
use Rattle.log_model.specs.Ring.{IsPlace}
use Rattle.order_model.specs.OrderClosed.{IsOrderClosed}
use Rattle.tree_model.specs.declared.call.Call.{Call}
use Rattle.tree_model.specs.declared.call.Reply.{Reply}
use Rattle.tree_model.specs.Calls.{Tree}
use Rattle.tree_model.specs.Histories.{tree_after_entries}
use Rattle.tree_model.specs.Plain.{AreBornBefore}
use Rattle.tree_model.specs.Trees.{AreAlike}
use Rattle.volume_ops.specs.Volume.{disk_of, tree_of}
use Rattle.volume_steps.specs.Now.{VolumeNow, tree_of_now, room_of}
use Rattle.volume_steps.specs.Plain.{IsPlainNow}
pub use Rattle.volume_steps.specs.NewNow.{new_now}
use Rattle.journal_ring.specs.LogRing.{LogRing}
use Rattle.crash_laws.specs.Recovery.{IsRecovered}
use Rattle.crash_laws.specs.Session.{Medium}
use Rattle.host_machine.specs.Host.{opened}
use Rattle.host_machine.specs.State.{Entry, Host}
use Rattle.host_machine.specs.Views.{is_answered, cut_of}
use Rattle.host_machine.specs.laws.Contract.{noted_history, session}
use Rattle.host_machine.specs.laws.Rules.{AllRules}
use Rattle.host_machine.specs.runs.Opened.{IsEmptyLog}
pub use Rattle.host_machine.specs.runs.Runs.{Event}
use Rattle.host_machine.specs.runs.Runs.{steps}
use Rattle.host_machine.specs.runs.Sentences.{kept_number, KeepsSentences}
use Rattle.minix_host.specs.ByteCalls.{ByteCall}
use Rattle.minix_host.specs.Volumes.{HaveBytes, is_metadata}
use Rattle.minix_host.specs.PlainTrees.{root_tree}
use Rattle.minix_host.specs.Sessions.{Opening, over, HasRoot, Stands}

-- the call of an entry that acts on the tree, as the tree model has it, where `call_of` says which call an entry has
abbrev pub acting : {C : Type 0} → (C → Call) → Entry C Reply → Option Call
acting call_of e = if is_answered e.what then Some (call_of e.call) else None

-- none where the entry does not act on the tree
abbrev pub call_of_entry : Entry ByteCall Reply → Option Call
call_of_entry e = acting (λ c. c.call) e

-- one for each entry, so that both have the same numbers
abbrev pub calls_of : List (Entry ByteCall Reply) → List (Option Call)
calls_of es = map call_of_entry es

-- an opening from the root alone on
pub record IsNewOpening (s : Opening) : Type 0 where
  pub tree : s.tree ≡ root_tree s.geometry.width
  pub first : s.first ≡ 0
  pub freeable : s.freeable ≡ []

-- A plain volume of the tree that is opened, whose blocks have bytes and are the first of the image.
pub record IsOpenedVolume (s : Opening) (v : VolumeNow) : Type 0 where
  pub plain : IsPlainNow v
  pub geometry : v.geometry ≡ s.geometry
  pub tree : tree_of_now v ≡ s.tree.tree
  pub born : AreBornBefore (s.first + 1) s.tree.tree
  pub root : HasRoot v s.root
  pub bytes : HaveBytes v.contents.blocks
  pub image : (b : ℕ) → b < s.geometry.zones → disk_of s.image b ≡ disk_of v.contents.blocks b
  -- its metadata is listed
  pub listed : (b : ℕ) → is_metadata v b ≡ true → In b (over s).reserved ⊎ In b s.freeable
  pub freeable : (b : ℕ) → In b s.freeable → is_metadata v b ≡ true

-- An empty journal behind it, of which no block reads as the commit block of a transaction that the session may have; its places
-- are numbered by words, as are the sequences of all transactions that a session of this limit can have.
pub record HasEmptyJournal (s : Opening) (ring : LogRing) (limit : ℕ) : Type 0 where
  pub start : (s.format.tail (disk_of s.image s.geometry.zones)).start ≡ 0
  pub plain : (p sequence : ℕ) → IsPlace ring.places p → s.sequence ≤ sequence → s.format.header (disk_of s.image (s.geometry.zones + p)) ≢ Commits sequence
  pub log : IsEmptyLog ring
  pub places : ring.places.past ≤ 4294967296
  pub sequences : s.sequence + limit + 1 < 4294967296

-- the host of a session that is opened, with the programs of its threads, and that after so many steps
abbrev pub opened_host : Opening → VolumeNow → LogRing → ℕ → List (List ByteCall) → Host VolumeNow ByteCall Reply
opened_host s v ring limit programs = opened (over s).model (over s).setup v ring s.geometry.zones limit programs

abbrev pub host_after : Opening → VolumeNow → LogRing → ℕ → List (List ByteCall) → List Event → Host VolumeNow ByteCall Reply
host_after s v ring limit programs events = steps (over s) (opened_host s v ring limit programs) events

-- the volume of these blocks has a tree that is alike to this one
pub record HasTreeLike (s : Opening) (blocks : List (List ℕ)) (after : Tree) : Type 0 where
  pub tree : Tree
  pub found : tree_of s.geometry blocks ≡ Ok tree
  pub alike : AreAlike after tree

-- the tree after the calls of the first k transactions
abbrev pub tree_after_transactions : Opening → Host VolumeNow ByteCall Reply → ℕ → Tree
tree_after_transactions s h k = tree_after_entries (room_of s.geometry) s.tree.tree s.first (calls_of h.history) (cut_of h.cuts (length h.history) k)

-- What holds of a session: `closed` are the bodies and revokes of its closed transactions.
pub record KeepsSession (s : Opening) (h : Host VolumeNow ByteCall Reply) : Type 0 where
  pub closed : List Transaction
  pub rules : AllRules (over s).program (noted_history (over s) (Stands s) h.history h.cuts) (session (over s) (Stands s) closed h)
  pub sentences : KeepsSentences (over s) (Stands s) h closed
  -- the volume that is recovered has the tree after the transactions whose commit block was kept
  pub trees : (m : Medium) (recovered : List (List ℕ)) → IsOrderClosed s.image h.journal.flush.requests m.image m.origins →
      IsRecovered (session (over s) (Stands s) closed h) m (disk_of recovered) →
      HasTreeLike s recovered (tree_after_transactions s h (kept_number (over s) (Stands s) h closed m))
