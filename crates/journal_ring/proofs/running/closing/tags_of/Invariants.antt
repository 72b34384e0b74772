use Rattle.std.proofs.Common.{◌<◌, ◌^◌, []}
use Rattle.std.specs.List.{All}
use Rattle.journal_blocks.specs.declared.tag.Tag.{Tag}
use Rattle.journal_ring.proofs.RunningLemmas.Adding.{Adding}
use Rattle.journal_ring.specs.running.Closing.{writers, written_tag}
use Rattle.journal_ring.specs.running.Plan.{tag_of}
use Rattle.journal_ring.proofs.running.closing.tags_of.Given as goal

-- the tags that are left, and that block numbers are of 32 bits
abbrev pub invariant-loop-body : goal.invariant-loop-body
invariant-loop-body l =
    Adding (λ b. written_tag (tag_of (writers l.stamp.made_with) l.stamp.tx l.stamp.sequence b)) [] l.bodies l.tags.items l.body-index
    × All (λ (t : Tag). t.block < 2 ^ 32) l.tags.items
