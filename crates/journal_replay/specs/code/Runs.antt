-- What the parts of a recovery's run leave as it was, and what they do to it.
use Rattle.std.specs.Prelude.{◌≡◌, ◌↔◌, ℕ, ◌<◌, ◌≤◌, ◌==◌, false, ◌++◌, ◌⊎◌, List, length, replicate, Some, Ok}
use Rattle.blk_base.specs.Streams.{Rose}
use Rattle.blk_base.specs.Members.{In}
use Rattle.order_model.specs.declared.part.Part.{Part}
use Rattle.order_model.specs.declared.command.Command.{Command}
use Rattle.order_model.specs.Received.{all_parts, part_at, command_of_part, all_ids, IsFlush}
use Rattle.order_model.specs.Device.{Seen}
use Rattle.order_model.specs.Steps.{KeepsGiven}
use Rattle.order_model.specs.Machine.{Machine}
use Rattle.log_model.specs.Marks.{Logged}
use Rattle.journal_blocks.specs.declared.super_block.JournalSuper.{JournalSuper}
use Rattle.journal_blocks.specs.Super.{super_of}
use Rattle.journal_blocks.specs.Log.{body_at}
use Rattle.journal_replay.specs.declared.choice.Choice.{Choice}
use Rattle.journal_replay.specs.declared.choice.Choice.TheVariants as choice
use Rattle.journal_replay.specs.Recovered.{log_mark, emptied_super}
use Rattle.journal_replay.specs.Commands.{for_block, sends, homes}
use Rattle.journal_replay.specs.declared.end.End.{End}
use Rattle.journal_replay.specs.declared.end.End.TheVariants as ends
use Rattle.journal_replay.specs.Driving.{Driven, driven, is_failed}
use Rattle.journal_replay.specs.Endings.{IsFlushAnswered, FailsBetween}
use Rattle.journal_replay.specs.code.Sending.{KeepsAll}

-- a device step changes nothing of what was given to the device and of what it told; where a command fails, the count
-- of faults rises
pub record StepKeeps (old new : Seen) : Type 0 where
  pub given : KeepsGiven old new
  pub faults : old.faults ≤ new.faults
  pub failed : (new.failed ≡ old.failed) ⊎ Rose old.faults new.faults

-- completions that were waiting are sent, and nothing else changes
pub record DrainKeeps (old new : Seen) : Type 0 where
  pub rest : new ≡ record old { sent = new.sent; waiting = new.waiting }
  pub told : new.sent ++ new.waiting ≡ old.sent ++ old.waiting

-- what a run keeps
pub record RunKeeps (old : Seen) (rest : List Command) (new : Seen) (left : List Command) : Type 0 where
  pub all : KeepsAll old rest new left
  pub faults : old.faults ≤ new.faults
  pub failed : (new.failed ≡ old.failed) ⊎ Rose old.faults new.faults

-- the last of these commands is a flush, and its id is no part's
pub record FlushedLast (cs : List Command) (id : ℕ) : Type 0 where
  pub at : ℕ
  pub flush : IsFlush cs at id
  pub last : (x : ℕ) → x < length (all_parts cs) → command_of_part cs x < at
  pub alone : (x : ℕ) (p : Part) → part_at cs x ≡ Some p → p.id ≡ id → ⊥
  pub listed : In id (all_ids cs)

-- the last of these commands is a flush, whatever its id
abbrev pub IsFlushedLast : List Command → Type 0
IsFlushedLast cs = (id : ℕ) × FlushedLast cs id

-- the second run is ahead of the first by so many turns by default
pub record IsAhead {S : Type 0} (m : Machine S) (d e : Driven S) : Type 0 where
  pub turns : ℕ
  pub same : (cs : List Choice) → driven m cs e ≡ driven m (replicate turns choice.Default ++ cs) d

-- the second is where the first is after so many turns by default
abbrev pub IsDrivenBy : {S : Type 0} → Machine S → Driven S → Driven S → Type 0
IsDrivenBy m d e = (k : ℕ) × (e ≡ driven m (replicate k choice.Default) d)

-- a log that is not empty, by what a recovery has read of it: the homes, and the superblock that it will write
pub record HasLog (base : ℕ) (image : List (List ℕ)) (hs : List Logged) (y : List ℕ) : Type 0 where
  pub journal : JournalSuper
  pub read : super_of (body_at image base) ≡ Ok journal
  pub full : (journal.start == 0) ≡ false
  pub homes : hs ≡ homes (log_mark base journal image) 0 base
  pub super : y ≡ emptied_super base journal image

-- The run of these homes' recovery ended so: by its flush exactly where this was answered, and by a command exactly where one failed.
pub record EndsAs (hs : List Logged) (base : ℕ) (y : List ℕ) (old new : Seen) (e : End) : Type 0 where
  pub flushed : (e ≡ ends.Flushed) ↔ IsFlushAnswered (sends hs (for_block base y)) new
  pub failure : (id : ℕ) → e ≡ ends.Failed id → FailsBetween old new id
  pub failed_is : new.failed ≡ is_failed e
