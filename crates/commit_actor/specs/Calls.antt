-- What calls of the host change of the journal's part.
use Rattle.flush_actor.specs.Part.{FlushPart}
use Rattle.journal_ring.specs.running.Open.{OpenTransaction}
use Rattle.commit_actor.specs.Actor.{CommitActor}

abbrev pub with_flush : CommitActor → FlushPart → CommitActor
with_flush a f = record {
  made_with = a.made_with;
  journal = a.journal;
  blocks = a.blocks;
  spare = a.spare;
  part = record { flush = f; ring = a.part.ring; running = a.part.running; phase = a.part.phase };
}

-- the running transaction, with what it is made with and its room
abbrev pub open_of : CommitActor → OpenTransaction
open_of a = record { made_with = a.made_with; spare = a.spare; running = a.part.running }

-- the running transaction and its room are these
abbrev pub with_open : CommitActor → OpenTransaction → CommitActor
with_open a t = record {
  made_with = a.made_with;
  journal = a.journal;
  blocks = a.blocks;
  spare = t.spare;
  part = record { flush = a.part.flush; ring = a.part.ring; running = t.running; phase = a.part.phase };
}
