use Rattle.journal_blocks.proofs.Writes.{no_uuid}
use Rattle.journal_blocks.proofs.writing.put_uuid.Goals as goal

pub returns-else-first : goal.returns-else-first
returns-else-first c = no_uuid c.args.block.now c.args.first c.if-first.false
