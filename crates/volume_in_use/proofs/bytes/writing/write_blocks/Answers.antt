use Rattle.std.proofs.Common.{rules, ◌+◌, ◌/◌}
use Rattle.volume_in_use.specs.bytes.Contents.{bytes_of}
use Rattle.volume_in_use.proofs.BytesLemmas.WholeWrites.{next_turn}
use Rattle.volume_in_use.proofs.bytes.writing.write_blocks.Goals as goal

pub loop-index-preserved : goal.loop-index-preserved
loop-index-preserved c =
    next_turn c.args.off (bytes_of c.args.content.now) c.loop-index.index (c.args.off / 1024 + c.args.count) _ _ _ c.loop-index.touched.spare c.write_block.new.touched.spare c.args.touched.now.spare
    (search rules) c.loop-index.invariant c.write_block.ensures.work c.write_block.ensures.spare
