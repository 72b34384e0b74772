-- What a barrier or sync call has when it is answered Ok.
use Rattle.std.specs.Prelude.{◌≡◌, ℕ, ◌<◌, ◌≤◌, ◌⊎◌, true, false, not, List, Some, None, if◌then◌else◌, []}
use Rattle.blk_base.specs.Members.{In}
use Rattle.order_model.specs.declared.completion.Completion.TheVariants as completions
use Rattle.order_model.specs.declared.completion.Completion.{Completion}
use Rattle.crash_laws.specs.History.{History}
use Rattle.crash_laws.specs.PromiseRules.{CoversNothing, BegunCall, Covers, CoversEntry, KeepsBarrier, KeepsSync}
use Rattle.crash_laws.specs.Session.{Session, IsCommit}
use Rattle.host_machine.specs.State.{Begun, Host}
use Rattle.flush_actor.specs.Kinds.{is_data, is_whole, is_durable}
use Rattle.host_machine.specs.laws.Contract.{Over, noted_history, session}

-- what the call covers
abbrev pub call_of : Begun → BegunCall
call_of b = record { begin = b.begin; file = if is_whole b.kind then None else Some b.file; metadata = not (is_data b.kind) }

-- the cause of an Ok: a submitted transaction whose cut lies between the Begin and the End; for a sync call a flush
-- behind its commit block was answered
pub record IsCause {A : Type 0} (h : History A) (s : Session) (taken : List Completion) (ended_at : ℕ) (b : Begun) : Type 0 where
  pub k : ℕ
  pub c : ℕ
  pub commit : IsCommit s k c
  pub begun : b.begin ≤ h.cut k
  pub ended : h.cut k < ended_at
  pub flushed : is_durable b.kind ≡ true → (f : ℕ) × In (completions.Flushed f) taken × (c < f)

-- A call is answered Ok as entry `ended_at`: a barrier call keeps its rule; a sync call keeps its own, or no request
-- was put at all, and it covers nothing.
pub record KeepsOk {A : Type 0} (h : History A) (s : Session) (taken : List Completion) (ended_at : ℕ) (b : Begun) : Type 0 where
  pub barrier : is_durable b.kind ≡ false → KeepsBarrier h s ended_at (Covers h (call_of b)) (CoversEntry (call_of b))
  pub sync : is_durable b.kind ≡ true → KeepsSync h s taken (Covers h (call_of b)) (CoversEntry (call_of b)) ⊎ CoversNothing h (call_of b)
  pub cause : is_data b.kind ≡ false → IsCause h s taken ended_at b

-- In this state the call that answered Ok as entry `ended_at` has it.
abbrev pub IsAnswered : {A T V C R : Type 0} (o : Over A T V C R) (Stands : V → T → Type 0) → Host V C R → ℕ → Begun → Type 0
IsAnswered o Stands s ended_at b = KeepsOk (noted_history o Stands s.history s.cuts) (session o Stands [] s) s.journal.flush.taken ended_at b
