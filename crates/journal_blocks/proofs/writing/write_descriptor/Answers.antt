use Rattle.std.proofs.Common.{◌==◌, ◌∙◌, ap, true, false, arith}
use Rattle.journal_blocks.specs.declared.tag.Tag.{Tag}
use Rattle.journal_blocks.specs.Blocks.{log_block_of}
use Rattle.journal_blocks.specs.Written.{tags_bytes, descriptor_block}
use Rattle.journal_blocks.proofs.Descriptors.{descriptor_read}
use Rattle.journal_blocks.proofs.Writes.{whole_block, tags_step, tags_room, tags_done, low_fit}
use Rattle.journal_blocks.proofs.writing.write_descriptor.Goals as goal

abbrev no_tag : Tag
no_tag = record { block = 0; escaped = false }

pub put_tag-requires-clause-room : goal.put_tag-requires-clause-room
put_tag-requires-clause-room c = tags_room c.args.wide c.loop-i.block c.args.seq c.args.tags.now c.loop-i.i (no_tag) (omega arith) c.requires.few c.loop-i.invariant

pub loop-i-preserved : goal.loop-i-preserved
loop-i-preserved c = tags_step c.args.wide c.loop-i.block _ c.put_tag.new.block c.args.tags.now c.loop-i.i no_tag (omega arith) c.loop-i.invariant c.put_tag.ensures

pub returns-clause-value : goal.returns-clause-value
unfolding descriptor_block
returns-clause-value c =
    c.block.ensures.value
    ∙ whole_block 1 c.args.seq (tags_bytes c.args.wide true c.args.tags.now) c.loop-i.block (tags_done c.args.wide c.loop-i.block _ (c.loop-i.i == 0) c.args.tags.now c.loop-i.i (omega arith) c.loop-i.invariant)

pub returns-clause-read : goal.returns-clause-read
returns-clause-read c =
    ap (log_block_of c.args.wide) (returns-clause-value c) ∙ descriptor_read c.args.wide c.args.seq c.args.tags.now c.ranges.seq.fits c.requires.some c.requires.few (low_fit c.args.wide c.args.tags.now c.requires.low)
