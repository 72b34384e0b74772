-- The log blocks of a transaction that is closed, before they have their places.
use Rattle.std.specs.Prelude.{ℕ, List, [], ◌∷◌, ◌++◌, map}
use Rattle.log_model.specs.Log as model
use Rattle.log_model.specs.Marks.{Logged}
use Rattle.journal_blocks.specs.Blocks.{escaped}
use Rattle.journal_blocks.specs.Super.{super_block, is_wide}
use Rattle.journal_blocks.specs.Written.{descriptor_block, revoke_block, commit_block, most_tags, most_revokes}
use Rattle.journal_blocks.specs.declared.super_block.JournalSuper.{JournalSuper}
use Rattle.journal_blocks.specs.declared.tag.Tag.{Tag}
use Rattle.journal_ring.specs.running.Plan as plan
use Rattle.journal_ring.specs.running.Plan.{Writers, logged_blocks}
use Rattle.journal_ring.specs.declared.running.pieces.UnplacedBlock.{UnplacedBlock}

-- a tag of the model as it is written
abbrev pub written_tag : model.Tag → Tag
written_tag t = record { block = t.block; escaped = t.escaped }

-- how the blocks of this journal are written
abbrev pub writers : JournalSuper → Writers
writers s = record {
  most_tags = most_tags (is_wide s);
  most_revokes = most_revokes (is_wide s);
  super = λ seq start. super_block (record s { sequence = seq; start = start });
  revoke = revoke_block (is_wide s);
  descriptor = λ seq tags. descriptor_block (is_wide s) seq (map written_tag tags);
  commit = commit_block;
  stored = λ body. (escaped body).0;
  is_escaped = λ body. (escaped body).1;
}

-- revoke blocks, descriptors with their bodies, and the commit block
abbrev pub unplaced_blocks : Writers → ℕ → ℕ → List Logged → List ℕ → List UnplacedBlock
unplaced_blocks w k sequence bodies revokes = logged_blocks w k sequence bodies revokes ++ plan.commit_block w k sequence ∷ []

-- the blocks that it touched, with their present bodies
abbrev pub logged_of : (ℕ → List ℕ) → List ℕ → List Logged
logged_of bodies = map (λ b. record { block = b; body = bodies b })
