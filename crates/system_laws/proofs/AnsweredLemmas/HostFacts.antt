-- What is known of the hosts that sessions come to.
use Rattle.std.specs.Prelude.{◌≡◌, ℕ, ◌≤◌, true, false, List, ◌∷◌, length, Some, None, slice_get, slice_index_or}
use Rattle.order_model.specs.declared.note.Note.TheVariants as notes
use Rattle.flush_actor.specs.Part.{is_over}
use Rattle.flush_actor.specs.Waits.{no_wait}
use Rattle.commit_actor.specs.Journal.{Plan, Committing, is_submitted}
use Rattle.host_machine.specs.State.{Begun, Thread, Host}
use Rattle.system_laws.proofs.AnsweredLemmas.HoldFacts.{HoldFacts}
use Rattle.system_laws.proofs.ProgressLemmas.Targets.{AreFor}

-- what is known of a host
pub record Facts {V C R : Type 0} (h : Host V C R) : Type 0 where
  pub going : is_over h.journal.flush ≡ false
  pub waits : AreFor h.journal
  pub holds : HoldFacts h.journal
  -- a transaction that is through has its commit block
  pub commits : (k : ℕ) → 1 ≤ k → is_submitted h.journal k ≡ true → (id : ℕ) × (slice_get h.journal.flush.notes id ≡ Some (notes.Commit k))
  pub counted : length h.threads ≡ length h.journal.flush.waits
  -- a thread whose call has not begun waits for nothing
  pub idle : (t : ℕ) (th : Thread C) → slice_get h.threads t ≡ Some th → th.begun ≡ None → slice_index_or h.journal.flush.waits t no_wait ≡ no_wait
  -- and one that has begun is the first of its thread's calls
  pub first : (t : ℕ) (th : Thread C) (b : Begun) → slice_get h.threads t ≡ Some th → th.begun ≡ Some b → (c : C) × (rest : List C) × (th.calls ≡ c ∷ rest)

-- no plan is being sent
abbrev pub HasNoPlan : {V C R : Type 0} → Host V C R → Type 0
HasNoPlan h = (p : Plan) → h.journal.phase ≡ Committing p → ⊥
