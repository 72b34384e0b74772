-- What holds of the fields of the commit actor.
use Rattle.std.specs.Prelude.{◌≡◌, ℕ, ◌+◌, ◌<◌, ◌≤◌, ◌^◌, length}
use Rattle.blk_base.specs.Members.{In}
use Rattle.log_model.specs.Ring.{IsPlace}
use Rattle.journal_ring.specs.Journal.{JournalRing}
use Rattle.journal_ring.specs.running.Open.{OpenTransaction}
use Rattle.flush_actor.specs.Actor.{FlushActor}
use Rattle.commit_actor.specs.Actor.{LogState}
use Rattle.commit_actor.specs.Journal as model
use Rattle.commit_actor.specs.code.Sending.{plan_left}
use Rattle.commit_actor.specs.declared.phase.Phase.{Phase}
use Rattle.commit_actor.specs.declared.phase.Phase.TheVariants.{Idle, Closing, Committing}
use Rattle.commit_actor.specs.declared.sending.Sending.{Sending}

-- ring and running transaction are of one journal, and ring and flush part of one session; block numbers and sequences
-- keep within 32 bits
pub record IsLog (f : FlushActor) (r : JournalRing) (t : OpenTransaction) (journal : ℕ) : Type 0 where
  pub same : t.made_with ≡ r.made_with
  pub limit : r.limit ≡ f.part.limit
  pub few : length f.part.requests ≤ f.part.limit
  pub size : r.ring.places.past < 2 ^ 32
  pub fits : journal + r.ring.places.past ≤ 2 ^ 32
  pub word : r.made_with.sequence + f.part.limit + 1 < 2 ^ 32
  pub head : IsPlace r.ring.places r.ring.head
  pub first : 1 ≤ t.running.number
  pub touched : (b : ℕ) → In b t.running.touched → b < f.blocks

-- of the closed transactions each has its commit block, and of the bodies that wait each was submitted
pub record IsAtRest (l : LogState) : Type 0 where
  pub first : 1 ≤ l.running.number
  pub numbered : l.running.number ≤ length l.flush.requests + 1
  pub waiting : length l.ring.homes ≤ length l.flush.requests

-- what holds while log blocks of a plan are still to be sent
pub record IsOnItsWay (l : LogState) (s : Sending) : Type 0 where
  pub closed : 2 ≤ l.running.number
  pub numbered : l.running.number ≤ length l.flush.requests + 2
  pub waiting : length l.ring.homes + length s.homes.pairs.items ≤ length l.flush.requests + length s.pieces
  pub left : 1 ≤ length s.pieces
  pub place : IsPlace l.ring.places s.place

-- what holds in each phase of the code
abbrev pub IsInPhase : LogState → Phase → Type 0
IsInPhase l Idle = IsAtRest l
IsInPhase l Closing = IsAtRest l
IsInPhase l (Committing s) = IsOnItsWay l s

-- the phase as the model has it
abbrev pub phase_of : LogState → Phase → model.Phase
phase_of l Idle = model.Idle
phase_of l Closing = model.Closing
phase_of l (Committing s) = model.Committing (plan_left l.journal l.made_with l.ring.places s)
