-- A begun barrier or sync call: what is done of the pairs that it covers.
use Rattle.std.specs.Prelude.{◌≡◌, ℕ, ◌-◌, ◌<◌, ◌≤◌, ◌⊎◌}
use Rattle.order_model.specs.declared.note.Note.TheVariants.{Page}
use Rattle.order_model.specs.OrderClosed.{IsOrdered}
use Rattle.crash_laws.specs.History.{History}
use Rattle.crash_laws.specs.PromiseRules.{IsSuperseded, IsCarried}
use Rattle.crash_laws.specs.Session.{Session, HasNote}

-- a good ordered Page request of at least version n stands in the list
pub record IsSent (s : Session) (Good : ℕ → Type 0) (f i n : ℕ) : Type 0 where
  pub place : ℕ
  pub version : ℕ
  pub note : HasNote s place (Page f i version)
  pub ordered : IsOrdered s.requests place
  pub good : Good place
  pub later : n ≤ version

-- The pair is done: its page was sent, or an entry up to now has unmapped it.
abbrev pub IsDone : {A : Type 0} → History A → Session → (ℕ → Type 0) → ℕ → ℕ → ℕ → ℕ → Type 0
IsDone h s Good now f i n = IsSent s Good f i n ⊎ IsSuperseded h f i n now

-- no entry behind c up to now mapped or unmapped a block of the file
abbrev pub IsUnchangedSince : {A : Type 0} → History A → ℕ → ℕ → ℕ → Type 0
IsUnchangedSince h f c now = (i m : ℕ) → c < m → m ≤ now → h.maps m f i ≡ h.maps (m - 1) f i

-- The pair is good for transaction K.
abbrev pub IsGoodFor : {A : Type 0} → History A → Session → (ℕ → Type 0) → ℕ → ℕ → ℕ → ℕ → Type 0
IsGoodFor h s Good K f i n = IsSuperseded h f i n (h.cut K) ⊎ IsCarried h s Good K f i n
