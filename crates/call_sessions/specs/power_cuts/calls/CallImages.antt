-- Sessions over calls as code has them, on images that were made, and the media that a power cut leaves of them.
use Rattle.std.specs.Prelude.{◌≡◌, ◌≢◌, ℕ, Bool, ◌+◌, ◌<◌, ◌≤◌, ◌⊎◌, true, List, [], Some, slice_get}
use Rattle.minix_layout.specs.declared.division.Geometry.{Geometry}
use Rattle.minix_layout.specs.Geometry.{IsSound}
use Rattle.order_model.specs.OrderClosed.{IsOrderClosed}
use Rattle.log_model.specs.Marks.{Transaction}
use Rattle.journal_ring.specs.running.Open.{quota}
use Rattle.tree_model.specs.declared.call.Call.{Call}
use Rattle.tree_model.specs.declared.call.Reply.{Reply}
use Rattle.tree_model.specs.Calls.{Tree}
use Rattle.tree_model.specs.Histories.{block_at}
use Rattle.volume_ops.specs.Reads.{answer}
use Rattle.volume_ops.specs.Volume.{disk_of}
use Rattle.volume_steps.specs.Now.{VolumeNow}
use Rattle.crash_laws.specs.Found.{found}
use Rattle.crash_laws.specs.Headline.{HoldsPrefix}
use Rattle.crash_laws.specs.History.{History, last_write, IsLastChange}
use Rattle.crash_laws.specs.PromiseRules.{IsSettled, IsSuperseded}
use Rattle.crash_laws.specs.Recovery.{IsOf}
use Rattle.crash_laws.specs.Session.{Session, Medium}
use Rattle.crash_laws.specs.Volumes.{WalkEnd}
use Rattle.host_machine.specs.State.{Host}
use Rattle.host_machine.specs.laws.Contract.{noted_history, session}
use Rattle.host_machine.specs.runs.Runs.{Event}
use Rattle.minix_host.specs.Sessions.{Opening, Stands}
use Rattle.mount_make.specs.Images.{recovered_image}
use Rattle.mount_make.specs.Made.{made_image, new_journal}
pub use Rattle.call_sessions.specs.declared.power_cuts.recovery.attempts.Attempt.{Attempt}
pub use Rattle.call_sessions.specs.power_cuts.recovery.Attempts.{AreAttempts, IsMountedBehind, attempts_of, image_after}
pub use Rattle.call_sessions.specs.power_cuts.recovery.Found.{found_in}
use Rattle.call_sessions.specs.Sessions.{WriteBytes, made_now, made_opening, made_ring, call_over, host_behind, tree_behind}
use Rattle.minix_layout.specs.declared.limits.TheConstants.{LEAST_JOURNAL, MOST_JOURNAL}

-- ---- sessions

-- what a session on an image is opened with that was made of this division and a journal of so many blocks
abbrev pub opening_on : Geometry → ℕ → Bool → Opening
opening_on g journal wide = made_opening g journal wide (quota (new_journal journal wide))

-- the host after these events, where it may have so many requests and its threads have these programs
abbrev pub made_session : Geometry → ℕ → Bool → ℕ → List (List Call) → List Event → Host VolumeNow Call Reply
made_session g journal wide limit programs events = host_behind (opening_on g journal wide) (made_now g) (made_ring journal) limit programs events

-- ---- power cuts

-- A medium that a power cut leaves of a session, where the device keeps the order of barriers. The image has the sizes of
-- one that is made, the sequences of the log, one round of it ahead, are words, and all calls write bytes.
pub record IsCut (g : Geometry) (journal : ℕ) (wide : Bool) (limit : ℕ) (programs : List (List Call)) (events : List Event) (m : Medium) : Type 0 where
  pub sound : IsSound g
  pub least : LEAST_JOURNAL ≤ journal
  pub most : journal ≤ MOST_JOURNAL
  pub words : limit + journal < 4294967296
  pub bytes : WriteBytes programs
  pub order : IsOrderClosed (made_image g journal wide) (made_session g journal wide limit programs events).journal.flush.requests m.image m.origins

-- the list that a host has submitted, as the laws of power cuts see it, with what its closed transactions hold
abbrev pub submitted_by : Geometry → ℕ → Bool → List Transaction → Host VolumeNow Call Reply → Session
submitted_by g journal wide closed h = session (call_over (opening_on g journal wide)) (Stands (opening_on g journal wide)) closed h

-- how many transactions have their commit block on the medium
abbrev pub kept_count : Geometry → ℕ → Bool → Host VolumeNow Call Reply → Medium → ℕ
kept_count g journal wide h m = found (submitted_by g journal wide [] h) m

-- the tree after the transactions whose commit block this medium keeps
abbrev pub kept_tree : Geometry → ℕ → Bool → Host VolumeNow Call Reply → Medium → Tree
kept_tree g journal wide h m = tree_behind (opening_on g journal wide) h (kept_count g journal wide h m)

-- What a disk has of the metadata and the files after these transactions: the walk through it finds what it finds in the
-- image after them, and each mapped block of a file has a version that is no older than its file's last change asks for.
abbrev pub KeepsFiles : Geometry → ℕ → Bool → List Transaction → Host VolumeNow Call Reply → Medium → (ℕ → List ℕ) → Type 0
KeepsFiles g journal wide closed h m disk =
    let s = opening_on g journal wide in
    HoldsPrefix (call_over s).program (noted_history (call_over s) (Stands s) h.history h.cuts) (submitted_by g journal wide closed h) m disk (kept_count g journal wide h m)

-- ---- the tree that is shown

-- what is told of the calls of a session: which blocks of files they wrote, and where its transactions end
abbrev pub history_of : Geometry → ℕ → Bool → Host VolumeNow Call Reply → History WalkEnd
history_of g journal wide h = noted_history (call_over (opening_on g journal wide)) (Stands (opening_on g journal wide)) h.history h.cuts

-- the block at which the disk that is recovered has this block of a file of the tree after these transactions
abbrev pub place_of : Geometry → ℕ → Bool → Host VolumeNow Call Reply → Medium → ℕ → ℕ → ℕ
place_of g journal wide h m f i =
    let told = history_of g journal wide h in
    told.place (answer (disk_of (recovered_image m.image)) (call_over (opening_on g journal wide)).program) (told.cut (kept_count g journal wide h m)) f i

-- The tree of a recovered volume, into whose births `to` leads, has this block of the file in a version that is no older
-- than entry n, and in which the file has the block; and the medium has at the block's place the request that carried this
-- very version, or what was there when the session began.
pub record IsShown (g : Geometry) (journal : ℕ) (wide : Bool) (h : Host VolumeNow Call Reply) (m : Medium) (tree : Tree) (to : ℕ → ℕ) (f i n : ℕ) : Type 0 where
  pub version : ℕ
  pub later : n ≤ version
  pub mapped : (history_of g journal wide h).maps version f i ≡ true
  pub shown : block_at tree (to f) i ≡ Some ((history_of g journal wide h).content f i version)
  pub source : IsOf (submitted_by g journal wide [] h) m f i version (place_of g journal wide h m f i)

-- so, or an entry of the transactions that were kept removed the file or unmapped the block
abbrev pub IsShownOrGone : Geometry → ℕ → Bool → Host VolumeNow Call Reply → Medium → ℕ → Tree → (ℕ → ℕ) → ℕ → ℕ → ℕ → Type 0
IsShownOrGone g journal wide h m kept tree to f i n = (let told = history_of g journal wide h in IsShown g journal wide h m tree to f i n ⊎ IsSuperseded told f i n (told.cut kept))

-- these bytes of a block of a file are newer than entry e: it has them after no entry up to e
abbrev pub AreNewer : History WalkEnd → ℕ → ℕ → ℕ → List ℕ → Type 0
AreNewer told f i e bytes = (v : ℕ) → v ≤ e → told.content f i v ≢ bytes

-- What such a tree shows of the files, where so many transactions were kept.
pub record ShowsFiles (g : Geometry) (journal : ℕ) (wide : Bool) (closed : List Transaction) (h : Host VolumeNow Call Reply) (m : Medium) (tree : Tree) (to : ℕ → ℕ) : Type 0 where
  -- each block that is mapped after them, as it stands on the recovered disk
  pub placed : let told = history_of g journal wide h in
      (f i : ℕ) → told.maps (told.cut (kept_count g journal wide h m)) f i ≡ true → block_at tree (to f) i ≡ Some (disk_of (recovered_image m.image) (place_of g journal wide h m f i))
  -- each of them in a version that is no older than the one which its file's last change asks for
  pub latest : let told = history_of g journal wide h in
      let kept = kept_count g journal wide h m in
      (f i k : ℕ) → told.maps (told.cut kept) f i ≡ true → IsLastChange told f kept k → IsShown g journal wide h m tree to f i (last_write told f i (told.cut k))
  -- what survived the power cut is shown, and what is not shown was superseded
  pub settled : let told = history_of g journal wide h in
      let kept = kept_count g journal wide h m in
      (f i n : ℕ) → IsSettled (call_over (opening_on g journal wide)).program told (submitted_by g journal wide closed h) m kept f i n → IsShownOrGone g journal wide h m kept tree to f i n
