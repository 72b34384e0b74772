-- The commands of a recovery, in order.
use Rattle.std.specs.Prelude.{ℕ, zero, suc, ◌+◌, ◌==◌, Bool, true, if◌then◌else◌, List, [], ◌∷◌, ◌++◌, length, Some, None, Result, Ok, Err}
use Rattle.order_model.specs.declared.command.Command.{Command}
use Rattle.order_model.specs.declared.command.Priority.TheVariants.{Simple, Ordered}
use Rattle.log_model.specs.Marks.{Logged, Mark, Keep, Clear, Set}
use Rattle.journal_blocks.specs.declared.super_block.JournalSuper.{JournalSuper}
use Rattle.journal_blocks.specs.declared.fault.JournalFault.{JournalFault}
use Rattle.journal_blocks.specs.Super.{super_of}
use Rattle.journal_blocks.specs.Log.{body_at}
use Rattle.journal_replay.specs.Recovered.{log_mark, emptied_super}

-- a body for a block
abbrev pub for_block : ℕ → List ℕ → Logged
for_block block body = record { block = block; body = body }

-- a command of one part; the last one of its kind is a barrier
abbrev pub write : ℕ → Logged → Bool → Command
write id home last = record {
  parts = record { id = id; block = home.block; body = home.body } ∷ [];
  priority = (if last then Ordered else Simple);
  barrier = last;
  flush = None;
}

-- the flush that makes all before it durable
abbrev pub flush : ℕ → Command
flush id = record { parts = []; priority = Ordered; barrier = true; flush = Some id }

-- one command for each body, with ids from this one on; only the last is a barrier
abbrev pub home_writes : ℕ → List Logged → List Command
home_writes id [] = []
home_writes id (h ∷ hs) = write id h (length hs == 0) ∷ home_writes (id + 1) hs

-- what stands behind the home writes
abbrev pub ending : ℕ → Logged → List Command
ending id superblock = write id superblock true ∷ flush (id + 1) ∷ []

-- what the mark of block i leaves: the body that was set last, if any
abbrev pub home_of : ℕ → Mark → List Logged
home_of i Keep = []
home_of i Clear = []
home_of i (Set x) = for_block i x ∷ []

-- the bodies that marks leave, in rising order of block, of n blocks from i on
abbrev pub homes : (ℕ → Mark) → ℕ → ℕ → List Logged
homes m i zero = []
homes m i (suc n) = home_of i (m i) ++ homes m (i + 1) n

-- home writes, then the superblock of the empty log, then a flush
abbrev pub sends : List Logged → Logged → List Command
sends hs superblock = home_writes 0 hs ++ ending (length hs) superblock

-- nothing is sent where the journal cannot be read or its log is empty
abbrev pub commands_by : ℕ → List (List ℕ) → Result JournalSuper JournalFault → List Command
commands_by base image (Err fault) = []
commands_by base image (Ok s) =
    if s.start == 0 then [] else sends (homes (log_mark base s image) 0 base) (for_block base (emptied_super base s image))

-- what a recovery sends: the bodies of the log to their homes, the last as a barrier, then the superblock of an empty
-- log as a barrier, and then a flush
unfoldable pub commands : ℕ → List (List ℕ) → List Command
commands base image = commands_by base image (super_of (body_at image base))
