use Rattle.std.proofs.Common.{arith}
use Rattle.volume_in_use.proofs.ReadsLemmas.Listed.{zeros_behind}
use Rattle.volume_in_use.proofs.reads.pieces.body_of.Goals as goal

pub returns-else-from-len-clause-zeros : goal.returns-else-from-len-clause-zeros
returns-else-from-len-clause-zeros c _ = zeros_behind c.args.blocks.now c.args.zone c.in_ok-zone.zone c.in_ok-zone.was (omega arith)
