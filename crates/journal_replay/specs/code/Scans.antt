-- What a scan keeps.
use Rattle.std.specs.Prelude.{ℕ, Bool, true, false, List, map, drop, Option, Result, Ok, Err}
use Rattle.order_model.specs.Device.{Seen, IsQuiet}
use Rattle.order_model.specs.Steps.{OnlyReads}
use Rattle.log_model.specs.Marks.{Transaction}
use Rattle.journal_blocks.specs.declared.tag.Tag.{Tag}
use Rattle.journal_blocks.specs.Log.{Reading, Log, GoesOn, HasEnded}
use Rattle.journal_replay.specs.declared.home.LogBody.{LogBody}
use Rattle.journal_replay.specs.declared.home.LogTransaction.{LogTransaction}
use Rattle.order_model.specs.Machine.{Machine}
use Rattle.journal_replay.specs.declared.scanning.ScanFault.{ScanFault}
use Rattle.journal_replay.specs.declared.scanning.ScanFault.TheVariants as scan
use Rattle.journal_replay.specs.declared.fault.RecoverFault.{RecoverFault}
use Rattle.journal_replay.specs.declared.fault.RecoverFault.TheVariants as recovering
use Rattle.journal_replay.specs.Driving.{WereRead, FailsToRead}
use Rattle.journal_replay.specs.code.Homes.{logged_bodies}

-- the transaction as the model has it
abbrev pub transaction_of : LogTransaction → Transaction
transaction_of t = record { bodies = logged_bodies t.bodies.items; revokes = t.revokes.items }

-- `next` counts the tags whose bodies were read
abbrev pub reading_of : ℕ → List Tag → ℕ → List LogBody → List ℕ → Option ℕ → List LogTransaction → Option ℕ → Reading
reading_of sequence tags next bodies revokes suspect done fault = record {
  sequence = sequence;
  tags = drop next tags;
  bodies = logged_bodies bodies;
  revokes = revokes;
  suspect = suspect;
  done = map transaction_of done;
  fault = fault;
}

-- the log behind a block
abbrev pub after : Bool → Reading → Log
after true r = GoesOn r
after false r = HasEnded r

-- a quiet device was read, and is quiet still
pub record HasRead (old new : Seen) : Type 0 where
  pub reads : OnlyReads old new
  pub quiet : IsQuiet new

module _ {S X : Type 0} (m : Machine S) where
  -- what was read by an answer: all that was asked for, but for the last block where it tells that this could not be
  abbrev pub HasAsked : Result X ScanFault → S → S → Type 0
  HasAsked (Ok x) first now = WereRead m first now
  HasAsked (Err scan.ReadFault) first now = FailsToRead m first now
  HasAsked (Err scan.NoMemory) first now = WereRead m first now

  -- the same by the answer of a whole recovery
  abbrev pub HasAskedFor : Result X RecoverFault → S → S → Type 0
  HasAskedFor (Ok x) first now = WereRead m first now
  HasAskedFor (Err recovering.ReadFault) first now = FailsToRead m first now
  HasAskedFor (Err (recovering.DeviceFailed id)) first now = WereRead m first now
  HasAskedFor (Err (recovering.BadJournal fault block)) first now = WereRead m first now
  HasAskedFor (Err recovering.NoMemory) first now = WereRead m first now
