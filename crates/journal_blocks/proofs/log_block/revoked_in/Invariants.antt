use Rattle.std.proofs.Common.{◌≡◌, map}
use Rattle.std.specs.List.{range_with_len}
use Rattle.journal_blocks.specs.Blocks.{revoked_at}
use Rattle.journal_blocks.proofs.log_block.revoked_in.Given as goal

abbrev pub invariant-loop-k : goal.invariant-loop-k
invariant-loop-k l = l.blocks.items ≡ map (revoked_at l.wide l.bytes) (range_with_len 0 l.k)
