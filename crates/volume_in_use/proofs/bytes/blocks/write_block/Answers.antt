use Rattle.std.proofs.Common.{rules}
use Rattle.volume_in_use.specs.bytes.Contents.{bytes_of}
use Rattle.volume_in_use.proofs.BytesLemmas.Steps.{hole_written}
use Rattle.volume_in_use.proofs.bytes.blocks.write_block.Goals as goal

pub returns-then-zone-eq0-clause-work : goal.returns-then-zone-eq0-clause-work
returns-then-zone-eq0-clause-work c =
    hole_written c.args.off (bytes_of c.args.content.now) c.args.index c.block_zone-zone.result (record { volume = c.args.v.now; file = c.args.file.now; touched = c.args.touched.now.touched }) _ c.fill.result c.patched-body.result
    (search rules) c.if-zone-eq0.true c.fill.ensures c.patched-body.ensures c.map_new.ensures.work
