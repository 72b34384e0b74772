use Rattle.minix_tables.proofs.InodesLemmas.Entries.{HasFirst}
use Rattle.minix_tables.proofs.inodes.encode.encode_zone_block.Given as goal

abbrev pub invariant-loop-k : goal.invariant-loop-k
invariant-loop-k l = HasFirst l.bytes l.entries l.k
