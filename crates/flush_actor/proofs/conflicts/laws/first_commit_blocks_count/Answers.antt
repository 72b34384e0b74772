use Rattle.flush_actor.specs.conflicts.laws.CommitBlocks.{committed_more}
use Rattle.flush_actor.proofs.conflicts.laws.first_commit_blocks_count.Goals as goal

pub returns : goal.returns
returns c cs k id n j early = committed_more cs k id n j early
