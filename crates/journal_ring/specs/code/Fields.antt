-- What holds of the fields of a ring.
use Rattle.std.specs.Prelude.{ℕ, ◌<◌, ◌≤◌, ◌-◌, ◌^◌, List, length}
use Rattle.blk_base.specs.Members.{IsAscending}
use Rattle.log_model.specs.Marks.{Logged}
use Rattle.journal_blocks.specs.Super.{IsSound}
use Rattle.journal_blocks.specs.declared.super_block.JournalSuper.{JournalSuper}

-- the superblock has no fault, the head is a place, no more places are in use than there are; the bodies that wait stand
-- in rising order of block, and as many as may wait have room and are counted in 32 bits
pub record IsRing (s : JournalSuper) (limit room head used : ℕ) (homes : List Logged) : Type 0 where
  pub sound : IsSound s
  pub low : s.first ≤ head
  pub high : head < s.maxlen
  pub few : used ≤ s.maxlen - s.first
  pub rising : IsAscending (λ (h : Logged). h.block) homes
  pub most : length homes ≤ limit
  pub short : limit < 2 ^ 32
  pub reserved : limit ≤ room
