-- A journal, as it was read of a device.
use Rattle.std.specs.Prelude.{◌≡◌, ℕ, List, None, Ok, length}
use Rattle.journal_blocks.specs.Super.{super_of, IsSound}
use Rattle.journal_blocks.specs.Log.{body_at}
use Rattle.journal_replay.specs.declared.journal.Journal.{Journal}
use Rattle.journal_replay.specs.Recovered.{transactions_of, journal_fault}

-- it is the journal of this image, and without a fault
pub record IsJournalOf (base : ℕ) (image : List (List ℕ)) (j : Journal) : Type 0 where
  pub superblock : body_at image base ≡ j.superblock
  pub size : length (body_at image base) ≡ 1024
  pub read : super_of (body_at image base) ≡ Ok j.fields
  pub sound : IsSound j.fields
  pub log : j.log ≡ transactions_of base j.fields image
  pub fine : journal_fault base image ≡ None
