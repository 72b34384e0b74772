-- What recovery makes of a medium: the log that it reads, the blocks that it leaves, and the page that is there.
use Rattle.std.specs.Prelude.{◌≡◌, ℕ, ◌+◌, ◌<◌, ◌≤◌, true, List, ◌-◌}
use Rattle.order_model.specs.declared.note.Note.TheVariants.{Page}
use Rattle.order_model.specs.OrderClosed.{HasOrigin, IsKept}
use Rattle.volume_ops.specs.Volume.{disk_of}
use Rattle.volume_ops.specs.Reads.{Reads}
use Rattle.log_model.specs.Log.{log_of}
use Rattle.log_model.specs.Marks.{transactions_from, replayed}
use Rattle.crash_laws.specs.History.{History}
use Rattle.crash_laws.specs.PageRules.{place_at}
use Rattle.crash_laws.specs.Session.{Session, Medium, HasNote, IsSuperOf}

-- The superblock on the medium frees the log of the transactions up to `freed`.
pub record IsTailOf (s : Session) (m : Medium) (F freed : ℕ) : Type 0 where
  pub place : ℕ
  pub held : HasOrigin m.origins s.journal place
  pub super : IsSuperOf s place freed
  pub within : freed ≤ F
  pub greatest : (x other : ℕ) → IsSuperOf s x other → IsKept s.requests m.origins x → other ≤ freed

-- the log of the medium is that of the transactions from the tail to F
pub record IsLogFrom (s : Session) (m : Medium) (F freed : ℕ) : Type 0 where
  pub within : freed ≤ F
  pub log : log_of s.format s.ring s.journal (disk_of m.image) ≡ transactions_from s.transactions (1 + freed) (F - freed)
  pub tail : 1 ≤ freed → IsTailOf s m F freed

-- what recovery makes of a medium's blocks
abbrev pub recovered_disk : Session → Medium → ℕ → List ℕ
recovered_disk s m = replayed (log_of s.format s.ring s.journal (disk_of m.image)) (disk_of m.image)

-- a disk is that, before the journal
abbrev pub IsRecovered : Session → Medium → (ℕ → List ℕ) → Type 0
IsRecovered s m disk = (b : ℕ) → b < s.journal → disk b ≡ recovered_disk s m b

-- What block z has is of a request of the page (f, i) with this version; or it is that of the image which the session
-- began with, as no request's: version 0.
pub data IsOf (s : Session) (m : Medium) (f i version z : ℕ) : Type 0 where
  Sent : (origin : ℕ) → HasNote s origin (Page f i version) → HasOrigin m.origins z origin → IsOf s m f i version z
  Opened : version ≡ 0 → ((origin : ℕ) → HasOrigin m.origins z origin → ⊥) → IsOf s m f i version z

-- the medium has at the page's block of the image of F this version of it or a later one, in which the file has that block
pub record HasVersion {A : Type 0} (program : Reads A) (h : History A) (s : Session) (m : Medium) (F f i v : ℕ) : Type 0 where
  pub version : ℕ
  pub mapped : h.maps version f i ≡ true
  pub source : IsOf s m f i version (place_at program h s F f i)
  pub body : disk_of m.image (place_at program h s F f i) ≡ h.content f i version
  pub later : v ≤ version
  pub low : place_at program h s F f i < s.journal
