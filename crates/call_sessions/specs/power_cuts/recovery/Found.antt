-- How many transactions of a session the image of a power cut has.
use Rattle.std.specs.Prelude.{ℕ, ◌+◌, ◌-◌, ◌^◌, ◌%◌, ◌==◌, if◌then◌else◌, List, length, Result, Ok, Err}
use Rattle.journal_blocks.specs.declared.super_block.JournalSuper.{JournalSuper}
use Rattle.journal_blocks.specs.declared.fault.JournalFault.{JournalFault}
use Rattle.journal_blocks.specs.Log.{body_at}
use Rattle.journal_blocks.specs.Super.{super_of}
use Rattle.journal_replay.specs.Recovered.{transactions_of}

-- how far a number is from the first one, where numbers are words
abbrev pub words_from : ℕ → ℕ → ℕ
words_from first n = (n + (2 ^ 32 - first)) % 2 ^ 32

-- Those before the tail were written home, and the log has the others: together all from the first of the session to the
-- first that the log misses. A journal that has no start was not used.
abbrev pub found_by : ℕ → ℕ → List (List ℕ) → Result JournalSuper JournalFault → ℕ
found_by base first image (Err fault) = 0
found_by base first image (Ok s) = if s.start == 0 then 0 else words_from first (s.sequence + length (transactions_of base s image))

-- The journal begins at block `base`, and the first transaction of the session has the sequence `first`.
abbrev pub found_in : ℕ → ℕ → List (List ℕ) → ℕ
found_in base first image = found_by base first image (super_of (body_at image base))
