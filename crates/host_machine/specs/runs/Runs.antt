-- Runs of the host: lists of its steps, and what numbers and volumes have to keep.
use Rattle.std.specs.Prelude.{◌≡◌, ℕ, ◌+◌, ◌<◌, ◌≤◌, Bool, true, List, [], ◌∷◌, length, slice_index, Option, Some}
use Rattle.blk_base.specs.Members.{In}
use Rattle.order_model.specs.declared.completion.Completion.{Completion}
use Rattle.host_machine.specs.Host.{advance, commit_step, writeback, flush_step, take_step}
use Rattle.host_machine.specs.State.{Begun, Thread, Host}
use Rattle.flush_actor.specs.Kinds.{is_begun}
use Rattle.flush_actor.specs.declared.call_kind.CallKind.{CallKind}
use Rattle.host_machine.specs.Views.{waits_for}
use Rattle.host_machine.specs.laws.Contract.{Over}

-- A step of the host: of this thread's call, of the commit actor, of the write-back with this pick, of the flush actor
-- with the next completion, if there is one, or that completion alone, though a flush may be due. The Bool says that the
-- submission queue is full.
pub data Event : Type 0 where
  Call : Bool → ℕ → Event
  Commit : Bool → Event
  WriteBack : Bool → ℕ → Event
  FlushStep : Bool → Option Completion → Event
  TakeStep : Option Completion → Event

-- a block of 1,024 bytes
abbrev pub IsBlock : List ℕ → Type 0
IsBlock body = (length body ≡ 1024) × ((k : ℕ) → slice_index body k < 256)

-- only barrier and sync calls have begun
abbrev pub AreBegun : {C : Type 0} → (C → CallKind) → List (Thread C) → Type 0
AreBegun {C = C} kind threads = (th : Thread C) (c : C) (rest : List C) (b : Begun) → In th threads → th.calls ≡ c ∷ rest → th.begun ≡ Some b → is_begun (kind c) ≡ true

module _ {A T V C R : Type 0} (o : Over A T V C R) where
  -- the host after this step, whatever the step answers
  abbrev pub stepped : Host V C R → Event → Host V C R
  stepped s (Call full t) = (advance o.model o.setup full s t).host
  stepped s (Commit full) = (commit_step o.model o.setup full s).host
  stepped s (WriteBack full pick) = (writeback o.model o.setup full s pick).host
  stepped s (FlushStep full next) = (flush_step o.model o.setup full s next).host
  stepped s (TakeStep next) = (take_step o.model o.setup s next).host

  abbrev pub steps : Host V C R → List Event → Host V C R
  steps s [] = s
  steps s (e ∷ es) = steps (stepped s e) es

  -- The blocks of the volume and the places of the log are numbered by words of 32 bits, and so are the sequences of all
  -- transactions that a session of this limit can have.
  pub record FitsWords (s : Host V C R) : Type 0 where
    pub blocks : o.setup.journal ≤ 4294967296
    pub places : s.journal.ring.places.past ≤ 4294967296
    pub sequences : o.setup.sequence + s.journal.flush.limit + 1 < 4294967296

  -- A volume has whole blocks of bytes, and no block of the journal or behind it waits to be free.
  pub record HasBlocks (Stands : V → T → Type 0) : Type 0 where
    pub whole : (v : V) (t : T) (b : ℕ) → Stands v t → IsBlock (o.model.bytes v b)
    pub waiting : (v : V) (t : T) (b k : ℕ) → Stands v t → waits_for (o.model.zones v).waiting b ≡ Some k → b < o.setup.journal
