use Rattle.journal_blocks.specs.laws.Readers.{same_log}
use Rattle.journal_blocks.proofs.laws.readers_agree.Goals as goal

pub returns : goal.returns
returns c = same_log
