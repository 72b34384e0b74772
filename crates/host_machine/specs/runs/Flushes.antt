-- How many flushes there are, how many sync calls began, and for whom each flush went out.
use Rattle.std.specs.Prelude.{◌≡◌, ◌≢◌, ℕ, ◌+◌, ◌<◌, Bool, true, false, List, [], ◌∷◌, ◌++◌, length, slice_get, Some}
use Rattle.order_model.specs.declared.note.Note.TheVariants as notes
use Rattle.host_machine.specs.State.{Begins, Ends, Entry, Host}
use Rattle.host_machine.specs.runs.Runs.{Event}
use Rattle.flush_actor.specs.Kinds.{is_durable}
use Rattle.flush_actor.specs.Part.{flush_above}
use Rattle.flush_actor.specs.declared.call_kind.CallKind.{CallKind}
use Rattle.flush_actor.specs.declared.wait.Wait.{Wait}

abbrev pub one_if : Bool → ℕ
one_if true = 1
one_if false = 0

-- how many elements of a list pass a test
abbrev pub count : {X : Type 0} → (X → Bool) → List X → ℕ
count p [] = 0
count p (x ∷ xs) = one_if (p x) + count p xs

-- the entry with which a sync call begins
abbrev pub is_sync_begin : {C R : Type 0} → (C → CallKind) → Entry C R → Bool
is_sync_begin kind e = elim e.what as (λ _. Bool) [ Begins ↦ is_durable (kind e.call) | Ends x ↦ false ]

-- A sync call waits for a flush that is still to be submitted.
pub record WaitsForFlush {V C R : Type 0} (kind : C → CallKind) (h : Host V C R) : Type 0 where
  pub thread : ℕ
  pub call : C
  pub sync : is_durable (kind call) ≡ true
  -- it began at this place of the history, and has not ended: no entry of its thread stands behind
  pub place : ℕ
  pub began : slice_get h.history place ≡ Some (record { thread = thread; call = call; what = Begins })
  pub last : (i : ℕ) (e : Entry C R) → place < i → slice_get h.history i ≡ Some e → e.thread ≢ thread
  -- it needs this request durable, which was submitted
  pub wait : Wait
  pub waits : slice_get h.journal.flush.waits thread ≡ Some wait
  pub request : ℕ
  pub needs : wait.need ≡ Some request
  pub sent : request < length h.journal.flush.requests
  -- and no flush serves it: none was submitted behind that request
  pub unserved : flush_above request 0 h.journal.flush.notes ≡ false

-- Flush f was submitted for a sync call: by the step behind these first ones, and when that step began, f requests had been
-- submitted and the call waited for a flush. `host` is the host after a list of steps.
pub record WasWaitedFor {V C R : Type 0} (kind : C → CallKind) (host : List Event → Host V C R) (events : List Event) (f : ℕ) : Type 0 where
  pub before : List Event
  pub step : Event
  pub after : List Event
  pub split : events ≡ before ++ step ∷ after
  pub sent : length (host before).journal.flush.requests ≡ f
  pub flush : slice_get (host (before ++ step ∷ [])).journal.flush.notes f ≡ Some notes.Flush
  pub waited : WaitsForFlush kind (host before)

-- each flush was
abbrev pub AreWaitedFor : {V C R : Type 0} → (C → CallKind) → (List Event → Host V C R) → List Event → Type 0
AreWaitedFor kind host events = (f : ℕ) → slice_get (host events).journal.flush.notes f ≡ Some notes.Flush → WasWaitedFor kind host events f
