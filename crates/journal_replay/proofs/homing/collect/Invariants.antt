use Rattle.std.specs.Vec.Iter.{into_iter_items, into_iter_len}
use Rattle.std.proofs.Common.{◌≡◌, length}
use Rattle.journal_replay.proofs.Fillings.{Collecting}
use Rattle.journal_replay.proofs.homing.collect.Given as goal

abbrev pub invariant-loop-slot : goal.invariant-loop-slot
invariant-loop-slot l = record {
  size : into_iter_len l.slot-iterator ≡ length (into_iter_items l.slot-iterator);
  collecting : Collecting l.fn.table.items (into_iter_items l.slot-iterator) l.block l.homes.items;
}
