use Rattle.std.proofs.Common.{◌≡◌, ◌+◌, length, drop}
use Rattle.wal_store.specs.Log.{puts_from, held_puts, pairs_after, pairs_of}
use Rattle.wal_store.proofs.log.read_log.Given as goal

abbrev pub invariant-loop-block : goal.invariant-loop-block
invariant-loop-block l = record {
  place : l.count ≡ l.block-index;
  count : l.count + length (puts_from l.count (drop l.block-index l.blocks)) ≡ length (held_puts l.blocks);
  pairs : pairs_after l.pairs (puts_from l.count (drop l.block-index l.blocks)) ≡ pairs_of (held_puts l.blocks);
}
