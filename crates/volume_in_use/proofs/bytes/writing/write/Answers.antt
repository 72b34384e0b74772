use Rattle.std.proofs.Common.{rules, ◌∙◌, ap}
use Rattle.volume_in_use.specs.bytes.Contents.{bytes_of}
use Rattle.volume_in_use.proofs.BytesLemmas.Sizes.{put_back}
use Rattle.volume_in_use.proofs.BytesLemmas.WholeWrites.{all_written, some_number, there_before, number_after, there_after, write_closed}
use Rattle.volume_in_use.proofs.bytes.writing.write.Goals as goal

pub close_file-requires : goal.close_file-requires
close_file-requires c =
    there_before c.args.v.now c.args.birth c.args.off (bytes_of c.args.content.now) c.requires c.open_file-file.result c.open_file-file.ensures.birth c.open_file-file.ensures.node c.open_file-file.new.v c.open_file-file.ensures.volume

pub returns-then-is_err-clause-memory : goal.returns-then-is_err-clause-memory
returns-then-is_err-clause-memory c =
    put_back c.args.v.now c.open_file-file.new.v c.close_file.new.v c.open_file-file.result _ c.args.birth c.requires.in_use.volume.0.in_order c.open_file-file.ensures.node c.open_file-file.ensures.birth
    c.open_file-file.ensures.volume (search rules) c.close_file.ensures

pub write_blocks-requires-clause-number : goal.write_blocks-requires-clause-number
write_blocks-requires-clause-number c =
    some_number c.args.v.now c.args.birth c.args.off (bytes_of c.args.content.now) c.requires c.open_file-file.result c.open_file-file.ensures.birth c.open_file-file.ensures.node

pub set_size-requires-clause-number : goal.set_size-requires-clause-number
set_size-requires-clause-number c =
    number_after c.args.v.now c.args.birth c.args.off (bytes_of c.args.content.now) c.requires c.open_file-file.result c.open_file-file.ensures.birth c.open_file-file.ensures.node
    (record { volume = c.write_blocks.new.v; file = c.write_blocks.new.file; touched = c.write_blocks.new.touched.touched })
    (all_written c.args.v.now c.args.birth c.args.off (bytes_of c.args.content.now) c.requires c.open_file-file.result c.open_file-file.ensures.birth c.open_file-file.ensures.node
    _ _ _ c.block_count-count.result _ c.open_file-file.ensures.volume (search rules) (search rules) (search rules) c.write_blocks.ensures.work)

pub close_file-requires-2 : goal.close_file-requires-2
close_file-requires-2 c =
    there_after c.args.v.now c.args.birth c.args.off (bytes_of c.args.content.now) c.requires c.open_file-file.result c.open_file-file.ensures.birth c.open_file-file.ensures.node
    (record { volume = c.write_blocks.new.v; file = c.write_blocks.new.file; touched = c.write_blocks.new.touched.touched })
    (record { volume = c.set_size.new.v; file = c.set_size.new.file; touched = c.set_size.new.touched.touched }) c.max-size.result
    (all_written c.args.v.now c.args.birth c.args.off (bytes_of c.args.content.now) c.requires c.open_file-file.result c.open_file-file.ensures.birth c.open_file-file.ensures.node
    _ _ _ c.block_count-count.result _ c.open_file-file.ensures.volume (search rules) (search rules) (search rules) c.write_blocks.ensures.work)
    c.set_size.ensures

pub returns-clause-done : goal.returns-clause-done
returns-clause-done c =
    ap (λ v. record { volume = v; touched = c.set_size.new.touched.touched }) c.close_file-2.ensures
    ∙ write_closed c.args.v.now c.args.birth c.args.off (bytes_of c.args.content.now) c.requires c.open_file-file.result c.open_file-file.ensures.birth c.open_file-file.ensures.node
    (record { volume = c.write_blocks.new.v; file = c.write_blocks.new.file; touched = c.write_blocks.new.touched.touched })
    (record { volume = c.set_size.new.v; file = c.set_size.new.file; touched = c.set_size.new.touched.touched }) c.max-size.result
    (all_written c.args.v.now c.args.birth c.args.off (bytes_of c.args.content.now) c.requires c.open_file-file.result c.open_file-file.ensures.birth c.open_file-file.ensures.node
    _ _ _ c.block_count-count.result _ c.open_file-file.ensures.volume (search rules) (search rules) (search rules) c.write_blocks.ensures.work)
    (search rules) c.set_size.ensures
