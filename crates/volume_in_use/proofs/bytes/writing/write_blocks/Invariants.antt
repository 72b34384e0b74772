use Rattle.std.proofs.Common.{◌/◌}
use Rattle.std.specs.List.{range_with_len}
use Rattle.volume_in_use.specs.bytes.Contents.{bytes_of}
use Rattle.volume_in_use.specs.bytes.code.Work.{blocks_work}
use Rattle.volume_in_use.proofs.BytesLemmas.WholeWrites.{IsTurn}
use Rattle.volume_in_use.proofs.bytes.writing.write_blocks.Given as goal

abbrev pub invariant-loop-index : goal.invariant-loop-index
invariant-loop-index l =
    IsTurn l.off (bytes_of l.content) l.index l.index-end
    (blocks_work l.off (bytes_of l.content) (range_with_len (l.off / 1024) l.count) (record { volume = l.initial.v; file = l.initial.file; touched = l.initial.touched.touched }))
    (record { volume = l.v; file = l.file; touched = l.touched.touched }) l.touched.spare l.initial.touched.spare
