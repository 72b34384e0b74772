-- Sessions on images that were made, and the media that a power cut leaves of them.
use Rattle.std.specs.Prelude.{ℕ, Bool, ◌+◌, ◌<◌, ◌≤◌, List, []}
use Rattle.minix_layout.specs.declared.division.Geometry.{Geometry}
use Rattle.minix_layout.specs.Geometry.{IsSound}
use Rattle.order_model.specs.OrderClosed.{IsOrderClosed}
use Rattle.log_model.specs.Log as model
use Rattle.log_model.specs.Marks.{Transaction}
use Rattle.journal_blocks.specs.Readers.{format, ring_of}
use Rattle.tree_model.specs.declared.call.Reply.{Reply}
use Rattle.tree_model.specs.Calls.{Tree}
use Rattle.volume_ops.specs.Volume.{disk_of}
use Rattle.volume_steps.specs.Now.{VolumeNow}
use Rattle.crash_laws.specs.Headline.{HoldsPrefix}
use Rattle.crash_laws.specs.Session.{Session, Medium}
use Rattle.host_machine.specs.State.{Host}
use Rattle.host_machine.specs.laws.Contract.{noted_history, session}
use Rattle.host_machine.specs.runs.Runs.{Event}
use Rattle.host_machine.specs.runs.Sentences.{kept_number}
use Rattle.minix_host.specs.ByteCalls.{ByteCall}
use Rattle.minix_host.specs.Runs.{host_after, tree_after_transactions}
pub use Rattle.minix_host.specs.Sessions.{Opening, over, Stands}
use Rattle.mount_make.specs.Made.{made_image, new_journal}
pub use Rattle.call_sessions.specs.made.MadeSessions.{made_now, made_opening, made_ring}
use Rattle.minix_layout.specs.declared.limits.TheConstants.{LEAST_JOURNAL, MOST_JOURNAL}

-- what a session is opened with: the division of the volume, the blocks of the journal and whether it has wide tags, how many log blocks a transaction
-- may have and how many requests the session, and the programs of its threads
pub record Start : Type 0 where
  pub geometry : Geometry
  pub journal : ℕ
  pub wide : Bool
  pub quota : ℕ
  pub limit : ℕ
  pub programs : List (List ByteCall)

-- Sizes of an image that is made; and the sequences of the log, one round of it ahead, are words.
pub record HasSizes (s : Start) : Type 0 where
  pub sound : IsSound s.geometry
  pub least : LEAST_JOURNAL ≤ s.journal
  pub most : s.journal ≤ MOST_JOURNAL
  pub words : s.limit + s.journal < 4294967296

-- the host after these events
abbrev pub host_of : Start → List Event → Host VolumeNow ByteCall Reply
host_of s events = host_after (made_opening s.geometry s.journal s.wide s.quota) (made_now s.geometry) (made_ring s.journal) s.limit s.programs events

-- a medium that a power cut leaves then, where the device keeps the order of barriers
abbrev pub IsCutOf : Start → List Event → Medium → Type 0
IsCutOf s events m = IsOrderClosed (made_image s.geometry s.journal s.wide) (host_of s events).journal.flush.requests m.image m.origins

-- the submitted list, as the laws of power cuts see it; what its transactions hold is not said here
abbrev pub submitted : Start → List Event → Session
submitted s events = session (over (made_opening s.geometry s.journal s.wide s.quota)) (Stands (made_opening s.geometry s.journal s.wide s.quota)) [] (host_of s events)

-- the log of the medium, as these laws read it
abbrev pub log_on : Start → Medium → List Transaction
log_on s m = model.log_of (format s.wide) (ring_of (new_journal s.journal s.wide)) s.geometry.zones (disk_of m.image)

-- how many transactions have their commit block on the medium
abbrev pub kept_transactions : Start → List Event → Medium → ℕ
kept_transactions s events m = kept_number (over (made_opening s.geometry s.journal s.wide s.quota)) (Stands (made_opening s.geometry s.journal s.wide s.quota)) (host_of s events) [] m

-- the tree after the transactions whose commit block this medium keeps
abbrev pub kept_tree : Start → List Event → Medium → Tree
kept_tree s events m = tree_after_transactions (made_opening s.geometry s.journal s.wide s.quota) (host_of s events) (kept_transactions s events m)

-- What a disk has of the metadata and the files after these transactions: the walk through it finds what it finds in the
-- image after them, and each mapped block of a file has a version that is no older than its file's last change asks for.
-- `closed` are the bodies and revokes of the closed transactions.
abbrev pub HoldsKept : Start → List Event → Medium → (ℕ → List ℕ) → List Transaction → Type 0
HoldsKept s events m disk closed =
    let o = over (made_opening s.geometry s.journal s.wide s.quota) in
    let stands = Stands (made_opening s.geometry s.journal s.wide s.quota) in
    let h = host_of s events in
    HoldsPrefix o.program (noted_history o stands h.history h.cuts) (session o stands closed h) m disk (kept_transactions s events m)
