use Rattle.std.proofs.Common.{◌<◌, ◌^◌}
use Rattle.std.specs.List.{All}
use Rattle.journal_blocks.specs.declared.tag.Tag.{Tag}
use Rattle.journal_tests.proofs.recovery.tags_for.Given as goal

-- the block numbers so far are of 32 bits
abbrev pub invariant-loop-block : goal.invariant-loop-block
invariant-loop-block g l = All (λ (t : Tag). t.block < 2 ^ 32) l.tags.items
