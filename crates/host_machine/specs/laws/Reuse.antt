-- Zones that are used again: a page goes to a freed zone only behind the commit block of the transaction that freed it,
-- and orderless only behind that of the transaction that took the zone; and what the host keeps for it.
use Rattle.std.specs.Prelude.{◌≡◌, ℕ, ◌-◌, ◌<◌, ◌≤◌, ◌⊎◌, Bool, true, false, List, Some, slice_index_or}
use Rattle.order_model.specs.OrderClosed.{IsOrdered}
use Rattle.crash_laws.specs.History.{History, Calm, IsEntryOf}
use Rattle.crash_laws.specs.PageRules.{IsPageTo}
use Rattle.crash_laws.specs.Session.{Session, CommitBefore}
use Rattle.crash_laws.specs.laws.Submitting.{IsCommitted}
use Rattle.host_machine.specs.laws.Facts.{View}

-- ---- the rules

-- `frees e z`: entry e freed zone z. A page whose version is later stands behind the commit block of that
-- entry's transaction.
pub record ReusesFreed {A : Type 0} (h : History A) (s : Session) (frees : ℕ → ℕ → Bool) : Type 0 where
  pub behind : (o f i w z e : ℕ) → IsPageTo s o f i w z → e < w → frees e z ≡ true → (k : ℕ) × IsEntryOf h e k × CommitBefore s k o

-- Entry e of transaction k mapped the block (f, i), and none unmapped it since, up to n.
pub record IsTaken {A : Type 0} (h : History A) (f i n k e : ℕ) : Type 0 where
  pub of_k : IsEntryOf h e k
  pub before : h.maps (e - 1) f i ≡ false
  pub there : h.maps e f i ≡ true
  pub within : e ≤ n
  pub calm : Calm h f i e n

-- An orderless Page request stands behind the commit block of the transaction that took its zone.
pub record OrderlessCommitted {A : Type 0} (h : History A) (s : Session) : Type 0 where
  pub behind : (o f i w z : ℕ) → IsPageTo s o f i w z → (IsOrdered s.requests o → ⊥) → (k e : ℕ) × IsTaken h f i w k e × CommitBefore s k o

-- ---- the facts

-- a freed zone: the commit block of the transaction that freed it is there, or the zone waits for it
pub record FreedWait {A : Type 0} (h : History A) (s : Session) (now N : ℕ) (v : View) (frees : ℕ → ℕ → Bool) : Type 0 where
  pub waits : (e z : ℕ) → frees e z ≡ true → e ≤ now → (k : ℕ) × IsEntryOf h e k × (IsCommitted s k ⊎ ((N < k) × (v.quarantine z ≡ Some k)))

-- the owner of a page's zone is the transaction that took it
pub record Owned {A : Type 0} (h : History A) (now : ℕ) (v : View) (owners : List ℕ) : Type 0 where
  pub owner : (f i z : ℕ) → v.zone f i ≡ Some z → (e : ℕ) × IsTaken h f i now (slice_index_or owners z 0) e
