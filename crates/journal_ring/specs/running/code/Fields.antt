-- What holds of the fields of a running transaction.
use Rattle.std.specs.Prelude.{◌≡◌, ℕ, ◌+◌, ◌<◌, ◌≤◌, ◌^◌, List, length}
use Rattle.journal_blocks.specs.Super.{IsSound}
use Rattle.journal_blocks.specs.declared.super_block.JournalSuper.{JournalSuper}
use Rattle.number_sets.specs.Sets.{IsRising}

-- a set of numbers that has room for so many more
pub record HasRoom (numbers : List ℕ) (spare room : ℕ) : Type 0 where
  pub rising : IsRising numbers
  pub fits : length numbers + spare ≤ room

-- there is room for `spare` notes more in each of the three sets
pub record IsRunning (s : JournalSuper) (number spare : ℕ) (touched revoked changed : List ℕ) (touched_room revoked_room changed_room : ℕ) : Type 0 where
  pub sound : IsSound s
  pub first : 1 ≤ number
  pub last : number ≤ 2 ^ 32
  pub of_touched : HasRoom touched spare touched_room
  pub of_revoked : HasRoom revoked spare revoked_room
  pub of_changed : HasRoom changed spare changed_room
