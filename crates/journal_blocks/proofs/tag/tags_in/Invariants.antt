use Rattle.std.proofs.Common.{◌≡◌, ◌-◌, ◌++◌}
use Rattle.journal_blocks.specs.Blocks.{tags_in, tags_of}
use Rattle.journal_blocks.proofs.tag.tags_in.Given as goal

-- the tags so far, and those in what is left, are all
abbrev pub invariant-loop-i : goal.invariant-loop-i
invariant-loop-i l = l.tags.items ++ tags_in l.wide (126 - l.i) l.rest ≡ tags_of l.wide l.bytes
