-- Attempts of recovery that are cut, each over the image that the one before left: on any device as a relation, since a device
-- may change where it is read, and on model devices as a function.
use Rattle.std.specs.Prelude.{◌≡◌, ◌≢◌, ℕ, ◌==◌, true, if◌then◌else◌, List, [], ◌∷◌, ◌++◌, replicate, Result, Ok, Err}
use Rattle.order_model.specs.Device.{Seen, origin_ids}
use Rattle.order_model.specs.Machine.{Machine}
use Rattle.order_model.specs.Steps.{OnlyReads}
use Rattle.device_epochs.specs.Device.{DeviceState, seen}
use Rattle.stack_core.specs.Core.{epoch_machine}
use Rattle.stack_core.specs.Fresh.{device_over}
use Rattle.journal_blocks.specs.declared.super_block.JournalSuper.{JournalSuper}
use Rattle.journal_blocks.specs.declared.fault.JournalFault.{JournalFault}
use Rattle.journal_blocks.specs.Log.{body_at}
use Rattle.journal_blocks.specs.Super.{super_of}
use Rattle.journal_replay.specs.declared.choice.Choice.{Choice}
use Rattle.journal_replay.specs.declared.choice.Choice.TheVariants as choices
use Rattle.journal_replay.specs.Commands.{commands}
use Rattle.journal_replay.specs.Driving.{driven, IsRun}
use Rattle.volume_ops.specs.Volume.{VolumeState}
use Rattle.mount_make.specs.Images.{mounted}
use Rattle.line_grammar.specs.declared.events.steer.Steer.{Steer}
use Rattle.line_grammar.specs.declared.events.steer.Steer.TheVariants as steers
use Rattle.call_sessions.specs.declared.power_cuts.recovery.attempts.Attempt.{Attempt}

-- ---- the device steps that a line asks for

-- the choices that a word of a `recover` line stands for
abbrev pub steps_of : Steer → List Choice
steps_of (steers.Transfer pick) = choices.Transfer pick ∷ []
steps_of (steers.Persist pick) = choices.Persist pick ∷ []
steps_of (steers.Default count) = replicate count choices.Default

-- those of all words of a line, in order
abbrev pub choices_of : List Steer → List Choice
choices_of [] = []
choices_of (s ∷ ss) = steps_of s ++ choices_of ss

-- ---- one attempt, on any device

-- How an attempt over this image ended, which began on a fresh device: where the journal has a log, some blocks were read,
-- the commands of its recovery went to the device with these steps, and it ended behind them. Else the device was read, and
-- nothing more.
pub record IsAttempt {S : Type 0} (m : Machine S) (base : ℕ) (image : List (List ℕ)) (steer : List Choice) (first last : S) : Type 0 where
  -- the journal has a log
  pub full : (s : JournalSuper) → super_of (body_at image base) ≡ Ok s → s.start ≢ 0 → IsRun m (commands base image) steer true first last
  -- its log is empty
  pub empty : (s : JournalSuper) → super_of (body_at image base) ≡ Ok s → s.start ≡ 0 → OnlyReads (m.seen first) (m.seen last)
  -- its superblock has a fault
  pub none : (fault : JournalFault) → super_of (body_at image base) ≡ Err fault → OnlyReads (m.seen first) (m.seen last)

-- what is told of it
abbrev pub told_of : Seen → Attempt
told_of last = record { steps = last.steps; origins = origin_ids last.took last.origins }

-- ---- one after the other

-- Each line is an attempt, in order, on a fresh device over the image that the one before left: this is told of each, and this
-- image is what the last one left.
abbrev pub AreAttempts : {S : Type 0} → Machine S → (List (List ℕ) → S) → ℕ → List (List ℕ) → List (List Steer) → List Attempt → List (List ℕ) → Type 0
AreAttempts m fresh base image [] [] left = left ≡ image
AreAttempts m fresh base image [] (a ∷ others) left = ⊥
AreAttempts m fresh base image (l ∷ ls) [] left = ⊥
AreAttempts {S = S} m fresh base image (l ∷ ls) (a ∷ others) left =
    (last : S) × IsAttempt m base image (choices_of l) (fresh image) last × (a ≡ told_of (m.seen last)) × AreAttempts m fresh base (m.seen last).surface ls others left

-- These attempts were made, and this volume was mounted behind them.
pub record IsMountedBehind {S : Type 0} (m : Machine S) (fresh : List (List ℕ) → S) (base : ℕ) (image : List (List ℕ)) (lines : List (List Steer)) (attempts : List Attempt) (v : VolumeState) : Type 0 where
  -- the image that the last of them left
  pub left : List (List ℕ)
  pub made : AreAttempts m fresh base image lines attempts left
  pub mounts : mounted left ≡ Ok v

-- ---- on model devices, which blocks that are read leave as they are

-- The device in the end of an attempt, which sends the commands of a recovery, makes these steps, and is cut behind them.
-- Where the log is empty, or the journal is none, nothing is done.
abbrev pub attempted_by : ℕ → ℕ → List (List ℕ) → List Choice → Result JournalSuper JournalFault → DeviceState
attempted_by depth base image steer (Err fault) = device_over depth image
attempted_by depth base image steer (Ok s) =
    if s.start == 0 then device_over depth image else (driven epoch_machine steer (record { dev = device_over depth image; rest = commands base image })).dev

-- the same by the superblock that the image has of its journal
unfoldable pub attempted : ℕ → ℕ → List (List ℕ) → List Choice → DeviceState
attempted depth base image steer = attempted_by depth base image steer (super_of (body_at image base))

-- what is told of the attempts, in order
abbrev pub attempts_of : ℕ → ℕ → List (List ℕ) → List (List Steer) → List Attempt
attempts_of depth base image [] = []
attempts_of depth base image (l ∷ ls) =
    let last = attempted depth base image (choices_of l) in told_of (seen last) ∷ attempts_of depth base last.surface ls

-- the image that the last of them left
abbrev pub image_after : ℕ → ℕ → List (List ℕ) → List (List Steer) → List (List ℕ)
image_after depth base image [] = image
image_after depth base image (l ∷ ls) = image_after depth base (attempted depth base image (choices_of l)).surface ls
