use Rattle.journal_blocks.proofs.Writes.{tag_whole}
use Rattle.journal_blocks.proofs.writing.put_tag.Goals as goal

pub returns : goal.returns
returns c =
    tag_whole c.args.wide c.args.tag.now c.args.first c.args.last c.args.block.now c.put_u32.new.self c.put_u16.new.self c.put_u16-2.new.self c.put_high_half.new.block c.put_uuid.new.block
    c.requires.low c.put_u32.ensures.value c.put_u16.ensures.value (rw c.flags.ensures at c.put_u16-2.ensures.value) c.put_high_half.ensures.value c.put_uuid.ensures
