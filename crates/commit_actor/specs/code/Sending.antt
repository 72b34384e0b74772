-- What is left of a plan, as the code keeps it.
use Rattle.std.specs.Prelude.{ℕ, false, List, [], ◌∷◌, length, drop, nat_le, Option, Some, None, if◌then◌else◌}
use Rattle.log_model.specs.Ring.{Ring, place_after}
use Rattle.journal_blocks.specs.declared.super_block.JournalSuper.{JournalSuper}
use Rattle.order_model.specs.declared.note.Note.TheVariants.{Super}
use Rattle.journal_ring.specs.running.Closing.{writers}
use Rattle.journal_ring.specs.running.Plan.{Planned, placed}
use Rattle.commit_actor.specs.Journal.{Plan}
use Rattle.commit_actor.specs.declared.sending.PlannedPut.{PlannedPut}
use Rattle.commit_actor.specs.declared.sending.Sending.{Sending}

-- the put as the model has it
abbrev pub planned_of : PlannedPut → Planned
planned_of p = record { note = p.note; block = p.block; body = p.body; barrier = p.barrier }

abbrev pub first_planned : List Planned → Option Planned
first_planned [] = None
first_planned (p ∷ ps) = Some p

-- the last two of these are barriers
abbrev pub with_barriers : List Planned → List Planned
with_barriers [] = []
with_barriers (p ∷ ps) = record { note = p.note; block = p.block; body = p.body; barrier = nat_le (length ps) 1 } ∷ with_barriers ps

-- the superblock, if it is still to be sent, and the log blocks
abbrev pub unbarred : ℕ → JournalSuper → Ring → Sending → List Planned
unbarred journal made_with places s =
    if s.super_left then record { note = Super; block = journal; body = (writers made_with).super s.sequence s.place; barrier = false } ∷ placed journal places s.place s.pieces
    else placed journal places s.place s.pieces

-- the requests that are still to be sent, in order
abbrev pub rest_of : ℕ → JournalSuper → Ring → Sending → List Planned
rest_of journal made_with places s = with_barriers (unbarred journal made_with places s)

-- the plan as the model has it
abbrev pub plan_left : ℕ → JournalSuper → Ring → Sending → Plan
plan_left journal made_with places s = record { rest = rest_of journal made_with places s; bodies = s.homes.pairs.items; revokes = s.homes.revoked.items; changed = s.changed.items }

-- the next of them was sent
abbrev pub sent_one : Ring → Sending → Sending
sent_one places s = record {
  sequence = s.sequence;
  place = if s.super_left then s.place else place_after places s.place;
  super_left = false;
  pieces = if s.super_left then s.pieces else drop 1 s.pieces;
  homes = s.homes;
  changed = s.changed;
}
