use Rattle.std.proofs.Common.{rules, ◌<◌, slice_index, arith}
use Rattle.minix_tables.proofs.InodesLemmas.Entries.{one_more}
use Rattle.minix_tables.proofs.inodes.encode.encode_zone_block.Goals as goal

pub loop-k-preserved : goal.loop-k-preserved
loop-k-preserved c =
    let low : c.loop-k.k < 512 = (let size = c.requires in let inside = c.loop-k-test.true in omega arith) in
    one_more c.loop-k.bytes c.put_u16_le.new.bytes c.args.entries.now c.loop-k.k (slice_index c.args.entries.now c.loop-k.k) low (search rules) (search rules) (search rules) c.loop-k.invariant
