-- What holds of the fields of a table of conflicts, and of one of commit blocks.
use Rattle.std.specs.Prelude.{ℕ, ◌<◌, ◌≤◌, List, length}
use Rattle.blk_base.specs.Members.{In, IsAscending}
use Rattle.flush_actor.specs.declared.conflicts.commits.CommitBlock.{CommitBlock}
use Rattle.flush_actor.specs.declared.conflicts.held.Held.{Held}
use Rattle.number_sets.specs.Sets.{IsRising}

-- both lists rise by block, have blocks of the volume alone, and there is room for one more than those
pub record IsTable (blocks : ℕ) (held : List Held) (wanted : List ℕ) (held_room wanted_room : ℕ) : Type 0 where
  pub rising : IsAscending (λ (h : Held). h.block) held
  pub inside : (h : Held) → In h held → h.block < blocks
  pub wanted_rising : IsRising wanted
  pub wanted_inside : (b : ℕ) → In b wanted → b < blocks
  pub reserved : blocks < held_room
  pub wanted_reserved : blocks < wanted_room

-- what holds of the fields of a table of commit blocks: they rise by transaction, and there is room for all
pub record IsCommitTable (room : ℕ) (commits : List CommitBlock) (capacity : ℕ) : Type 0 where
  pub rising : IsAscending (λ (c : CommitBlock). c.transaction) commits
  pub few : length commits ≤ room
  pub reserved : room ≤ capacity
