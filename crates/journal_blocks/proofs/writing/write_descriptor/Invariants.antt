use Rattle.std.proofs.Common.{◌≡◌, ◌==◌, ◌++◌, drop, true}
use Rattle.journal_blocks.specs.Written.{header_bytes, tags_bytes}
use Rattle.journal_blocks.proofs.writing.write_descriptor.Given as goal

-- what is written so far, and the tags that are left
abbrev pub invariant-loop-i : goal.invariant-loop-i
invariant-loop-i l = l.block ++ tags_bytes l.wide (l.i == 0) (drop l.i l.tags) ≡ header_bytes 1 l.seq ++ tags_bytes l.wide true l.tags
