use Rattle.std.specs.Vec.Iter.{into_iter_items, into_iter_len}
use Rattle.std.proofs.Common.{◌≡◌, length}
use Rattle.journal_replay.specs.Revokes.{place_of}
use Rattle.journal_replay.proofs.Fillings.{Replaying}
use Rattle.journal_replay.proofs.homing.put_log.Given as goal

abbrev pub invariant-loop-transaction : goal.invariant-loop-transaction
invariant-loop-transaction l = record {
  size : into_iter_len l.transaction-iterator ≡ length (into_iter_items l.transaction-iterator);
  replaying : Replaying (place_of l.revokes) l.fn.table.items l.table.items l.fn.log.items (into_iter_items l.transaction-iterator) l.at;
}
