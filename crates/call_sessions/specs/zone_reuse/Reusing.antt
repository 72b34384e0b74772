-- What holds of the submitted list, and of what a power cut leaves of it, where zones are used again.
use Rattle.std.specs.Prelude.{◌≡◌, ℕ, ◌<◌, ◌≤◌, Bool, true, List}
use Rattle.order_model.specs.OrderClosed.{IsKept, IsOrderClosed}
use Rattle.log_model.specs.Marks.{Transaction}
use Rattle.crash_laws.specs.Found.{found}
use Rattle.crash_laws.specs.History.{History, IsEntryOf}
use Rattle.crash_laws.specs.PageRules.{IsPageTo}
use Rattle.crash_laws.specs.Session.{Session, Medium, IsCommit}
use Rattle.host_machine.specs.State.{Host}
use Rattle.host_machine.specs.laws.Contract.{Over, noted_history, session}
use Rattle.host_machine.specs.laws.Reuse.{ReusesFreed, OrderlessCommitted}
use Rattle.host_machine.specs.runs.Runs.{Event, steps}
use Rattle.call_sessions.specs.zone_reuse.Freeing.{Frees}

-- Wherever the power is cut: let a page of a later version be kept in a zone that entry e freed, itself or a later request
-- to that zone. Then the commit block of the entry's transaction is kept too, and the transactions that are recovered have
-- the entry.
pub record KeptWithEntry {A : Type 0} (h : History A) (s : Session) (Freed : ℕ → ℕ → Type 0) : Type 0 where
  pub commit : (m : Medium) → IsOrderClosed s.base s.requests m.image m.origins → (o f i w z e : ℕ) → IsPageTo s o f i w z → e < w → Freed e z → IsKept s.requests m.origins o
      → (k c : ℕ) × IsEntryOf h e k × IsCommit s k c × IsKept s.requests m.origins c
  pub recovered : (m : Medium) → IsOrderClosed s.base s.requests m.image m.origins → (o f i w z e : ℕ) → IsPageTo s o f i w z → e < w → Freed e z → IsKept s.requests m.origins o
      → e ≤ h.cut (found s m)

-- Behind these steps from the first host, whatever the bodies of the closed transactions are.
pub record ReusesZones {A T V C R : Type 0} (o : Over A T V C R) (Stands : V → T → Type 0) (first : Host V C R) (events : List Event) : Type 0 where
  -- Let each of the entries named here have freed the zone that is named with it: a page of a later version goes to that
  -- zone only behind the commit block of the entry's transaction.
  pub freed : (closed : List Transaction) (frees : ℕ → ℕ → Bool) → ((e z : ℕ) → frees e z ≡ true → Frees o first events e z) →
      ReusesFreed (noted_history o Stands (steps o first events).history (steps o first events).cuts) (session o Stands closed (steps o first events)) frees
  -- an orderless page goes out only behind the commit block of the transaction that took its zone
  pub orderless : (closed : List Transaction) →
      OrderlessCommitted (noted_history o Stands (steps o first events).history (steps o first events).cuts) (session o Stands closed (steps o first events))
  -- wherever the power is cut: a page that is kept in such a zone is kept with the commit block of the entry's transaction
  pub kept : (closed : List Transaction) →
      KeptWithEntry (noted_history o Stands (steps o first events).history (steps o first events).cuts) (session o Stands closed (steps o first events)) (Frees o first events)
