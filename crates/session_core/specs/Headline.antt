-- What a session promises of what is left of it.
use Rattle.std.specs.Prelude.{◌≡◌, ◌≢◌, ℕ, ◌+◌, ◌≤◌, false, true, List, [], Some, Ok}
use Rattle.order_model.specs.Carrying.{IsPrefixOf}
use Rattle.log_model.specs.Marks.{Transaction}
use Rattle.tree_model.specs.declared.call.Call.{Call}
use Rattle.tree_model.specs.Calls.{Tree}
use Rattle.tree_model.specs.Histories.{block_at}
use Rattle.tree_model.specs.Trees.{node_of_path, AreAlike}
use Rattle.volume_ops.specs.Volume.{disk_of}
use Rattle.volume_steps.specs.Now.{room_of}
use Rattle.mount_make.specs.Images.{recovered_image}
pub use Rattle.crash_laws.specs.Found.{IsFound}
use Rattle.crash_laws.specs.LegalHistory.{root_alone, IsLegal}
pub use Rattle.crash_laws.specs.History.{History, last_write, IsLastChange}
use Rattle.crash_laws.specs.PromiseRules.{Covers, CoversEntry, IsLaterKept}
use Rattle.crash_laws.specs.Rules.{FitsNotes}
pub use Rattle.crash_laws.specs.Session.{Medium}
use Rattle.crash_laws.specs.Session.{Session}
use Rattle.crash_laws.specs.Volumes.{WalkEnd}
pub use Rattle.flush_actor.specs.Kinds.{is_durable}
use Rattle.flush_actor.specs.Kinds.{is_data}
use Rattle.flush_actor.specs.Part.{is_flush_note}
use Rattle.host_machine.specs.State.{Begun}
use Rattle.host_machine.specs.runs.Promises.{call_of}
use Rattle.host_machine.specs.runs.Sentences.{IsAllSettled}
use Rattle.host_machine.specs.runs.Flushes.{count, is_sync_begin, AreWaitedFor}
pub use Rattle.minix_host.specs.Calls.{kind_of}
use Rattle.minix_host.specs.Sessions.{Stands}
use Rattle.session_core.specs.run.Beginning.{call_over}
use Rattle.call_sessions.specs.power_cuts.calls.CallImages.{made_session, KeepsFiles, ShowsFiles, IsShown, IsShownOrGone, submitted_by, kept_count, history_of}
pub use Rattle.call_sessions.specs.promises.Answers.{AnsweredAt, WasAnswered}
use Rattle.call_sessions.specs.promises.Answers.{HasOkCause}
use Rattle.call_sessions.specs.promises.Causes.{HadCome, HaveCauses}
use Rattle.call_sessions.specs.promises.Legal.{events_in, program_of, FollowsTree}
use Rattle.call_sessions.specs.promises.Trees.{tree_at, content_at}
use Rattle.session_grammar.specs.declared.session_script.SessionScript.{SessionScript}
use Rattle.session_core.specs.Core.{EndState, IsBehind, IsDeviceOf, geometry_of, opening_of, core}
use Rattle.session_core.specs.Report.{ReportKeepsOrder, HasPrefix, tree_behind}
use Rattle.session_core.specs.declared.report.SessionReport.{SessionReport}

-- what the power cut left
abbrev pub medium_of : SessionReport → Medium
medium_of r = record { image = r.cut.image.items; origins = r.cut.origins }

-- what is told of the calls of a script's session that ended so, what its host submitted, and how many of its transactions a
-- medium has
abbrev pub told_by : SessionScript → EndState → History WalkEnd
told_by s end = history_of (geometry_of s) s.journal s.wide end.host

-- what the host of such an end submitted, with the notes of each request
abbrev pub submitted_in : SessionScript → EndState → Session
submitted_in s end = submitted_by (geometry_of s) s.journal s.wide [] end.host

-- how many transactions have their commit block on this medium
abbrev pub kept_in : SessionScript → EndState → Medium → ℕ
kept_in s end m = kept_count (geometry_of s) s.journal s.wide end.host m

-- a write made after entry e survived the power cut that left this medium
abbrev pub HasLaterKept : SessionScript → EndState → Medium → ℕ → Type 0
HasLaterKept s end m e = IsLaterKept (told_by s end) (submitted_in s end) m (kept_in s end m) e

-- a tree, into whose births `to` leads, has the block (f, i) in a version from entry n on, whose request the medium has there
abbrev pub IsShownBy : SessionScript → EndState → Medium → Tree → (ℕ → ℕ) → ℕ → ℕ → ℕ → Type 0
IsShownBy s end m tree to f i n = IsShown (geometry_of s) s.journal s.wide end.host m tree to f i n

-- Such a tree shows all blocks that a barrier or sync call covers, but for those that the kept transactions superseded; and
-- the metadata that the call covers is of these transactions.
pub record IsAllShown (s : SessionScript) (end : EndState) (m : Medium) (kept : ℕ) (tree : Tree) (to : ℕ → ℕ) (b : Begun) : Type 0 where
  pub pages : (f i n : ℕ) → Covers (told_by s end) (call_of b) f i n → IsShownOrGone (geometry_of s) s.journal s.wide end.host m kept tree to f i n
  pub metadata : (n : ℕ) → CoversEntry (call_of b) n → n ≤ (told_by s end).cut kept

-- ---- what a reader sees

-- At some path a tree has a block with bytes which the file there, as the answers to the calls of so many transactions leave
-- it, had after no entry up to e: so only later ones can have written them.
pub record HasNewerBytes (s : SessionScript) (end : EndState) (found : ℕ) (tree : Tree) (e : ℕ) : Type 0 where
  pub path : List (List ℕ)
  -- the node to which the path leads in the tree that is shown, and the block of it that has these bytes
  pub node : ℕ
  pub leads : node_of_path tree path ≡ Ok node
  pub index : ℕ
  pub bytes : List ℕ
  pub has : block_at tree node index ≡ Some bytes
  -- the file to which the path leads in the tree after the calls of the first `found` transactions
  pub file : ℕ
  pub led : node_of_path (tree_behind (opening_of s) end.host found) path ≡ Ok file
  -- up to entry e that file's block never had these bytes
  pub newer : (v : ℕ) → v ≤ e → content_at (opening_of s) end.host v file index ≢ bytes

-- A tree shows what only entries after e can have done: newer bytes, or paths and metadata of no tree up to entry e.
pub data ShowsLater (s : SessionScript) (end : EndState) (found : ℕ) (tree : Tree) (e : ℕ) : Type 0 where
  ByBytes : HasNewerBytes s end found tree e → ShowsLater s end found tree e
  ByMetadata : ((v : ℕ) → v ≤ e → AreAlike (tree_at (opening_of s) end.host v) tree → ⊥) → ShowsLater s end found tree e

-- ---- the sentences

-- The sentences, over a script's session that ended so and what is left of it. `closed` is what the closed transactions
-- hold, one list for all of them.
pub record HeadlineOn (s : SessionScript) (end : EndState) (r : SessionReport) : Type 0 where
  pub closed : List Transaction
  -- Each request goes where its note says. The medium is order-closed for what was submitted, and where a flush completed,
  -- all before it is kept. What the scheduler accepted are the first requests that were submitted, what the device took are the
  -- first commands that were sent out, and the completions that the host took are the first that the device sent.
  pub notes : FitsNotes (submitted_by (geometry_of s) s.journal s.wide closed end.host)
  pub order : ReportKeepsOrder s end r
  pub accepted : IsPrefixOf end.sched.accepted end.host.journal.flush.requests
  pub received : IsPrefixOf end.dev.took end.sched.sent_out
  pub taken : IsPrefixOf end.host.journal.flush.taken end.dev.sent
  -- The device is one as the script's header says: its power is off, and a transfer of it failed, just where that says so.
  pub device : IsDeviceOf s end.dev
  -- The history goes by the programs and by the tree of calls.
  pub follows : FollowsTree (opening_of s) s.programs end.host
  pub legal : IsLegal (room_of (geometry_of s)) (root_alone s.width) 0 (program_of s.programs) (events_in end.host.history)
  -- The transactions whose commit block was kept are the first ones, as many as were found; and the metadata recovered is
  -- that after them.
  pub transactions : IsFound (submitted_in s end) (medium_of r) r.found
  pub counted : r.found ≡ kept_in s end (medium_of r)
  pub prefix : HasPrefix s end r
  -- The recovered disk has the metadata after them, and each block of a file in a version that is no older than the one
  -- which the last change of its file asks for.
  pub files : KeepsFiles (geometry_of s) s.journal s.wide closed end.host (medium_of r) (disk_of (recovered_image r.cut.image.items))
  -- The tree that was recovered shows it: each block of a file as that disk has it, in such a version and the one whose
  -- request the medium has at its place; and all that survived. So what it shows of later entries has survived
  -- (`what_is_shown_later_survived`).
  pub shown : ShowsFiles (geometry_of s) s.journal s.wide closed end.host (medium_of r) prefix.tree prefix.alike.to
  -- A barrier or sync call that was answered Ok: where a write made after a barrier call survived, all that the call covers
  -- survived or was superseded; all that a sync call covers did so in any case. It survives at the place where the recovered
  -- disk has the block, by `files`, and so does the tree, by `shown`.
  pub answered : (e t : ℕ) (c : Call) → AnsweredAt end.host e t c → WasAnswered (opening_of s) end.host e t c
  pub barriers : (e t : ℕ) (c : Call) (ok : AnsweredAt end.host e t c) → is_durable (kind_of c) ≡ false → HasLaterKept s end (medium_of r) (e + 1)
      → IsAllSettled (call_over (opening_of s)) (Stands (opening_of s)) end.host closed (medium_of r) (answered e t c ok).begun
  pub syncs : (e t : ℕ) (c : Call) (ok : AnsweredAt end.host e t c) → is_durable (kind_of c) ≡ true
      → IsAllSettled (call_over (opening_of s)) (Stands (opening_of s)) end.host closed (medium_of r) (answered e t c ok).begun
  -- The host took some steps from the opened volume on. Calls end with no answer of the tree for a cause alone, which was there
  -- after those of the steps that were done when the call ended; and an Ok of a call that covers metadata has its commit block.
  pub run : IsBehind s end
  pub causes : HaveCauses kind_of s.header.limit (HadCome (made_session (geometry_of s) s.journal s.wide s.header.limit s.programs) run.events) end.host
  pub ok_causes : (e t : ℕ) (c : Call) → AnsweredAt end.host e t c → is_data (kind_of c) ≡ false → HasOkCause end.host e t c
  -- Each flush was submitted behind the Begin of a sync call, while that call waited for it and no flush before served it; and
  -- there are at most as many as sync calls have begun.
  pub waited_for : AreWaitedFor kind_of (made_session (geometry_of s) s.journal s.wide s.header.limit s.programs) run.events
  pub flushes : count is_flush_note end.host.journal.flush.notes ≤ count (is_sync_begin kind_of) end.host.history

-- those of a script's session on the device that it opens
abbrev pub Headline : SessionScript → SessionReport → Type 0
Headline s r = HeadlineOn s (core s) r
