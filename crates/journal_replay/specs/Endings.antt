-- How a recovery came to its end, by what its device took and told.
use Rattle.std.specs.Prelude.{◌≡◌, ℕ, ◌-◌, ◌≤◌, true, false, List, ◌++◌, length, Ok}
use Rattle.blk_base.specs.Members.{In}
use Rattle.order_model.specs.declared.command.Command.{Command}
use Rattle.order_model.specs.declared.completion.Completion.{Completion}
use Rattle.order_model.specs.declared.completion.Completion.TheVariants.{Flushed, Failed}
use Rattle.order_model.specs.Received.{IsFlush}
use Rattle.order_model.specs.Device.{Seen, IsUnmoved}
use Rattle.journal_blocks.specs.declared.super_block.JournalSuper.{JournalSuper}
use Rattle.journal_blocks.specs.Super.{super_of}
use Rattle.journal_blocks.specs.Log.{body_at}
use Rattle.journal_replay.specs.Recovered.{recovered}

-- all of these commands were sent, the last of them is a flush, and its completion was taken
pub record IsFlushAnswered (commands : List Command) (s : Seen) : Type 0 where
  pub all : s.took ≡ commands
  pub id : ℕ
  pub flush : IsFlush commands (length commands - 1) id
  pub answered : In (Flushed id) s.sent

-- nothing of the log is left: the journal's superblock says so, and a recovery leaves the image as it is
pub record HasNoLog (base : ℕ) (image : List (List ℕ)) : Type 0 where
  pub says : JournalSuper
  pub read : super_of (body_at image base) ≡ Ok says
  pub empty : says.start ≡ 0
  pub stays : recovered base image ≡ image

-- Between these two a transfer failed, and the device told it by this id: that of a command which it was given between them, and
-- of which no part was transferred.
pub record FailsBetween (old new : Seen) (id : ℕ) : Type 0 where
  pub before : old.failed ≡ false
  pub failed : new.failed ≡ true
  pub told : (cs : List Completion) × (new.sent ≡ old.sent ++ cs) × In (Failed id) cs
  pub command : IsUnmoved new id
  pub own : length old.took ≤ command.number
