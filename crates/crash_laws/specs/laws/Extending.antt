-- A history that grew.
use Rattle.std.specs.Prelude.{◌≡◌, ℕ, ◌≤◌}
use Rattle.order_model.specs.declared.note.Note.TheVariants.{Page}
use Rattle.crash_laws.specs.History.{History}
use Rattle.crash_laws.specs.Session.{Session, HasNote, IsCommit, IsSubmitted}

-- `more` tells of entries up to `now`, and of the submitted transactions, what `h` does.
pub record Extends {A : Type 0} (h more : History A) (s : Session) (now : ℕ) : Type 0 where
  pub cuts : (k : ℕ) → IsSubmitted s k → more.cut k ≡ h.cut k
  pub within : (k : ℕ) → IsSubmitted s k → h.cut k ≤ now
  pub versions : (o f i v : ℕ) → HasNote s o (Page f i v) → v ≤ now
  pub maps : (n f i : ℕ) → n ≤ now → more.maps n f i ≡ h.maps n f i
  pub writes : (n f i : ℕ) → n ≤ now → more.writes n f i ≡ h.writes n f i
  pub content : (f i v : ℕ) → v ≤ now → more.content f i v ≡ h.content f i v
  pub changes : (k c f : ℕ) → IsCommit s k c → more.changes k f ≡ h.changes k f
  pub place : (a : A) (n f i : ℕ) → n ≤ now → more.place a n f i ≡ h.place a n f i
