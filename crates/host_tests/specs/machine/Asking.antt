-- Who asks a host for what, and what is left where a call ends: in words of their own, that no step of the machine uses.
use Rattle.std.specs.Prelude.{◌≡◌, ◌⊎◌, ◌<◌, ◌≤◌, ◌+◌, ℕ, Bool, true, List, [], ◌∷◌, ◌++◌, length, set, Some, None, slice_get, slice_index_or}
use Rattle.blk_base.specs.Members.{In}
use Rattle.order_model.specs.declared.completion.Completion.TheVariants.{Failed, Cut}
use Rattle.order_model.specs.declared.note.Note.{Note}
use Rattle.order_model.specs.declared.note.Note.TheVariants.{Flush}
use Rattle.order_model.specs.declared.request.Kind.{Kind}
use Rattle.commit_actor.specs.Journal.{Plan, Committing}
use Rattle.flush_actor.specs.declared.call_kind.CallKind.TheVariants.{Reading, Changing}
use Rattle.flush_actor.specs.declared.wait.Wait.{Wait}
use Rattle.host_machine.specs.Model.{Model}
use Rattle.host_machine.specs.State.{Ending, Ends, Begun, Host}

-- thread t's next call is c, which has not begun; behind it come these
abbrev pub AsksFor : {V C R : Type 0} → Host V C R → ℕ → C → List C → Type 0
AsksFor s t c rest = slice_get s.threads t ≡ Some (record { calls = c ∷ rest; begun = None })

-- its call has begun
abbrev pub HasBegun : {V C R : Type 0} → Host V C R → ℕ → C → List C → Begun → Type 0
HasBegun s t c rest b = slice_get s.threads t ≡ Some (record { calls = c ∷ rest; begun = Some b })

-- the host was not told that the power went, nor that a request failed
pub record GoesOn {V C R : Type 0} (s : Host V C R) : Type 0 where
  pub powered : In Cut s.journal.flush.taken → ⊥
  pub sound : (id : ℕ) → In (Failed id) s.journal.flush.taken → ⊥

-- a session of `limit` requests may submit one more, or has submitted all
abbrev pub HasRoom : {V C R : Type 0} → Host V C R → Type 0
HasRoom s = length s.journal.flush.requests < s.journal.flush.limit

abbrev pub HasNoRoom : {V C R : Type 0} → Host V C R → Type 0
HasNoRoom s = s.journal.flush.limit ≤ length s.journal.flush.requests

-- a call that is answered in one step, and that nothing refuses
pub record IsPlain {T V C R : Type 0} (m : Model T V C R) (s : Host V C R) (t : ℕ) (c : C) (rest : List C) : Type 0 where
  pub asks : AsksFor s t c rest
  pub goes_on : GoesOn s
  pub allowed : m.reply s.volume c ≡ None
  pub kind : (m.kind c ≡ Reading) ⊎ (m.kind c ≡ Changing)

-- thread t waits for nothing any more
abbrev pub nothing : Wait
nothing = record { kind = Reading; target = None; need = None }

-- the call of thread t ended so: one entry more, and the thread goes on behind it. All else is as it was.
abbrev pub ended : {V C R : Type 0} → Host V C R → ℕ → C → List C → Ending R → Host V C R
ended s t c rest e = record s {
  history = s.history ++ record { thread = t; call = c; what = Ends e } ∷ [];
  threads = set s.threads t (record { calls = rest; begun = None });
  journal = record s.journal { flush = record s.journal.flush { waits = set s.journal.flush.waits t nothing } };
}

-- the running transaction is to be closed. All else is as it was.
abbrev pub wanted : {V C R : Type 0} → Host V C R → Host V C R
wanted s = record s { journal = record s.journal { running = record s.journal.running { wanted = true } } }

-- one request more was submitted, as this. All else is as it was.
abbrev pub with_request : {V C R : Type 0} → Host V C R → Note → Kind → Bool → Bool → Host V C R
with_request s note kind ordered barrier = record s {
  journal = record s.journal {
    flush = record s.journal.flush {
      requests = s.journal.flush.requests ++ record { id = length s.journal.flush.requests; kind = kind; ordered = ordered; barrier = barrier } ∷ [];
      notes = s.journal.flush.notes ++ note ∷ [];
    };
  };
}

-- thread t's call has begun, nothing ends it, and it waits for this
pub record IsUnderWay {V C R : Type 0} (s : Host V C R) (t : ℕ) (c : C) (rest : List C) (b : Begun) (w : Wait) : Type 0 where
  pub begun : HasBegun s t c rest b
  pub goes_on : GoesOn s
  pub waits : slice_index_or s.journal.flush.waits t nothing ≡ w

-- The commit block of transaction k is submitted: k runs no more, and its log blocks are not on their way.
pub record IsOut {V C R : Type 0} (s : Host V C R) (k : ℕ) : Type 0 where
  pub closed : k < s.journal.running.number
  pub sent : (p : Plan) → s.journal.phase ≡ Committing p → k + 1 < s.journal.running.number

-- It is not: k runs, or its log blocks are on their way.
abbrev pub IsNotOut : {V C R : Type 0} → Host V C R → ℕ → Type 0
IsNotOut s k = (s.journal.running.number ≤ k) ⊎ ((p : Plan) × (s.journal.phase ≡ Committing p) × (s.journal.running.number ≤ k + 1))

-- a flush behind request id is submitted, or none is
abbrev pub FlushBehind : {V C R : Type 0} → Host V C R → ℕ → Type 0
FlushBehind s id = (f : ℕ) × (id < f) × (slice_get s.journal.flush.notes f ≡ Some Flush)

abbrev pub NoFlushBehind : {V C R : Type 0} → Host V C R → ℕ → Type 0
NoFlushBehind s id = (f : ℕ) → id < f → slice_get s.journal.flush.notes f ≡ Some Flush → ⊥

-- the power went, or a request failed
abbrev pub HasStopped : {V C R : Type 0} → Host V C R → Type 0
HasStopped s = In Cut s.journal.flush.taken ⊎ ((id : ℕ) × In (Failed id) s.journal.flush.taken)
