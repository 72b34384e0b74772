use Rattle.std.specs.Vec.Iter.{into_iter_items, into_iter_len}
use Rattle.std.proofs.Common.{◌≡◌, length}
use Rattle.journal_replay.specs.Revokes.{place_of}
use Rattle.journal_replay.proofs.Fillings.{Putting}
use Rattle.journal_replay.proofs.homing.put_bodies.Given as goal

abbrev pub invariant-loop-body : goal.invariant-loop-body
invariant-loop-body l = record {
  size : into_iter_len l.body-iterator ≡ length (into_iter_items l.body-iterator);
  putting : Putting (place_of l.revokes) l.at l.fn.table.items l.table.items l.fn.bodies.items (into_iter_items l.body-iterator);
}
