-- The running transaction of one journal.
use Rattle.std.specs.Prelude.{ℕ, ◌+◌, ◌-◌, ◌/◌, nat_lt, if◌then◌else◌}
use Rattle.journal_blocks.specs.declared.super_block.JournalSuper.{JournalSuper}
use Rattle.journal_ring.specs.running.Running.{Running, fresh, fits_in}

-- the superblock that it was made from, for how many notes there is room, and the transaction
pub record OpenTransaction : Type 0 where
  pub made_with : JournalSuper
  pub spare : ℕ
  pub running : Running

-- transaction 1, with room for no note
abbrev pub made : JournalSuper → OpenTransaction
made s = record { made_with = s; spare = 0; running = fresh 1 }

-- room for at least so many notes
abbrev pub reserved : ℕ → OpenTransaction → OpenTransaction
reserved more t = record t { spare = if nat_lt t.spare more then more else t.spare }

-- one note more
abbrev pub noted : Running → OpenTransaction → OpenTransaction
noted r t = record t { spare = t.spare - 1; running = r }

abbrev pub with_running : OpenTransaction → Running → OpenTransaction
with_running t r = record t { running = r }

-- a transaction has at most a quarter of the log
abbrev pub quota : JournalSuper → ℕ
quota s = (s.maxlen - 1) / 4

-- the sequence of transaction k: transaction 1 has that of the superblock
abbrev pub sequence_of : JournalSuper → ℕ → ℕ
sequence_of s k = s.sequence + (k - 1)
