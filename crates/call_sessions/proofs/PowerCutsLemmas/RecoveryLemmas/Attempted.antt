-- One attempt, and one line after the other.
use Rattle.std.specs.Prelude.{◌≡◌, ◌≢◌, ℕ, ◌<◌, ◌==◌, Bool, true, false, if◌then◌else◌, List, [], ◌∷◌, ◌++◌, length, Option, None, Result, Ok, Err, refl}
use Rattle.std.proofs.Common.{sym, ap, ◌∙◌, subst, arith, append_assoc}
use Rattle.std.proofs.lemmas.Bool.{eqb-true, true≢false}
use Rattle.std.proofs.lemmas.List.{append-nil}
use Rattle.order_model.specs.declared.command.Command.{Command}
use Rattle.order_model.specs.Received.{all_parts, IsFlush}
use Rattle.order_model.specs.Device.{Seen, IsQuiet, origin_ids}
use Rattle.order_model.specs.Machine.{Machine}
use Rattle.order_model.specs.Steps.{OnlyReads}
use Rattle.device_epochs.specs.Device.{DeviceState, seen}
use Rattle.stack_core.specs.Core.{epoch_machine}
use Rattle.stack_core.specs.Fresh.{device_over}
use Rattle.journal_blocks.specs.declared.super_block.JournalSuper.{JournalSuper}
use Rattle.journal_blocks.specs.declared.fault.JournalFault.{JournalFault}
use Rattle.journal_blocks.specs.Log.{body_at}
use Rattle.journal_blocks.specs.Super.{super_of}
use Rattle.journal_replay.specs.declared.choice.Choice.{Choice}
use Rattle.journal_replay.specs.Commands.{commands}
use Rattle.journal_replay.specs.Driving.{driven, after_reads, IsRun}
use Rattle.journal_replay.specs.Recovered.{journal_fault}
use Rattle.line_grammar.specs.declared.events.steer.Steer.{Steer}
use Rattle.call_sessions.specs.declared.power_cuts.recovery.attempts.Attempt.{Attempt}
use Rattle.call_sessions.specs.power_cuts.recovery.Attempts.{choices_of, IsAttempt, told_of, AreAttempts, attempted_by, attempted, attempts_of, image_after}
use Rattle.call_sessions.proofs.PowerCutsLemmas.RecoveryLemmas.Kept.{not_bad}

-- ---- on any device

-- a device that took nothing has nothing to bring to the medium
pub quiet_new : (s : Seen) → s.took ≡ [] → IsQuiet s
quiet_new s none = record {
  kept = λ place there. absurd (let few = subst (λ (cs : List Command). place < length (all_parts cs)) none there in omega (arith, few));
  flushed = λ k id flush. absurd (subst (λ (cs : List Command). IsFlush cs k id) none flush);
}

module _ {S : Type 0} (m : Machine S) where
  -- a recovery from a fresh device is an attempt, where the journal has no fault
  pub attempt_from : {E : Type 0} (base : ℕ) (image : List (List ℕ)) (choices steer : List Choice) (first old last : S) → old ≡ first → (m.seen old).surface ≡ image → steer ≡ choices → journal_fault base image ≡ None
      → ((s : JournalSuper) → super_of (body_at (m.seen old).surface base) ≡ Ok s → s.start ≢ 0 → IsRun m (commands base (m.seen old).surface) steer true old last)
      → ((s : JournalSuper) → super_of (body_at (m.seen old).surface base) ≡ Ok s → s.start ≡ 0 → OnlyReads (m.seen old) (m.seen last) × E)
      → IsAttempt m base image choices first last
  attempt_from {E = E} base image choices steer first old last same over words fine run empty =
      subst (λ (cs : List Choice). IsAttempt m base image cs first last) words
      (subst (λ (d : S). IsAttempt m base image steer d last) same
      (record {
        full = subst (λ (i : List (List ℕ)). (s : JournalSuper) → super_of (body_at i base) ≡ Ok s → s.start ≢ 0 → IsRun m (commands base i) steer true old last) over run;
        empty = λ s read none. (subst (λ (i : List (List ℕ)). (s : JournalSuper) → super_of (body_at i base) ≡ Ok s → s.start ≡ 0 → OnlyReads (m.seen old) (m.seen last) × E) over empty s read none).0;
        none = λ fault read. absurd (not_bad base image fault fine read);
      }))

  -- Attempts were made, and this is so of those that are still to be made from this image: with those before them they are attempts
  -- from the first image.
  abbrev pub GoOn : (List (List ℕ) → S) → ℕ → List (List ℕ) → List (List Steer) → List Attempt → List (List ℕ) → List (List Steer) → Type 0
  GoOn fresh base image lines before now rest = (later : List Attempt) (left : List (List ℕ)) → AreAttempts m fresh base now rest later left → AreAttempts m fresh base image lines (before ++ later) left

  -- one attempt more
  pub one_more : (fresh : List (List ℕ) → S) (base : ℕ) (image now next : List (List ℕ)) (lines others rest : List (List Steer)) (line : List Steer) (before after : List Attempt) (a : Attempt) (last : S) → others ≡ line ∷ rest → after ≡ before ++ a ∷ []
      → IsAttempt m base now (choices_of line) (fresh now) last → a ≡ told_of (m.seen last) → next ≡ (m.seen last).surface → GoOn fresh base image lines before now others → GoOn fresh base image lines after next rest
  one_more fresh base image now next lines others rest line before after a last cut pushed attempt told left go later end made =
      subst (λ (all : List Attempt). AreAttempts m fresh base image lines all end) (sym (append_assoc before (a ∷ []) later) ∙ ap (λ (x : List Attempt). x ++ later) (sym pushed))
      (go (a ∷ later) end
      (subst (λ (ls : List (List Steer)). AreAttempts m fresh base now ls (a ∷ later) end) (sym cut)
      (last, attempt, told, subst (λ (i : List (List ℕ)). AreAttempts m fresh base i rest later end) left made)))

  -- none is left
  pub all_made : (fresh : List (List ℕ) → S) (base : ℕ) (image now : List (List ℕ)) (lines rest : List (List Steer)) (before : List Attempt) → rest ≡ [] → GoOn fresh base image lines before now rest → AreAttempts m fresh base image lines before now
  all_made fresh base image now lines rest before none go =
      subst (λ (all : List Attempt). AreAttempts m fresh base image lines all now) (append-nil before)
      (go [] now (subst (λ (ls : List (List Steer)). AreAttempts m fresh base now ls [] now) (sym none) refl))

pub told_from : (steps : ℕ) (origins : List (Option ℕ)) (last : Seen) → steps ≡ last.steps → origins ≡ origin_ids last.took last.origins
    → ◌≡◌ {A = Attempt} (record { steps = steps; origins = origins }) (told_of last)
told_from steps origins last same ids = rw (same, ids) refl

-- ---- on model devices

-- a new device on which no read fails is as it was when blocks were read
still_new : (depth : ℕ) (image : List (List ℕ)) (blocks : List ℕ) → after_reads epoch_machine (device_over depth image) blocks ≡ device_over depth image
still_new depth image [] = refl
still_new depth image (b ∷ bs) = still_new depth image bs

-- it is told, and leaves, as that device
record IsSeenAs (last device : DeviceState) : Type 0 where
  told : told_of (seen last) ≡ told_of (seen device)
  surface : last.surface ≡ device.surface

seen_same : (last device : DeviceState) → last ≡ device → IsSeenAs last device
seen_same last device e = record { told = ap (λ (d : DeviceState). told_of (seen d)) e; surface = ap (λ (d : DeviceState). d.surface) e }

seen_read : (last device : DeviceState) → OnlyReads (seen device) (seen last) → IsSeenAs last device
seen_read last device read = record {
  told = ap told_of read.0;
  surface = ap (λ (x : Seen). x.surface) read.0;
}

module _ (depth base : ℕ) (image : List (List ℕ)) (steer : List Choice) (last : DeviceState) (attempt : IsAttempt epoch_machine base image steer (device_over depth image) last) where
  ran : (s : JournalSuper) → super_of (body_at image base) ≡ Ok s → s.start ≢ 0 → last ≡ (driven epoch_machine steer (record { dev = device_over depth image; rest = commands base image })).dev
  ran s read some =
      let r = attempt.full s read some in
      r.cut_run refl
      ∙ ap (λ (first : DeviceState). (driven epoch_machine steer (record { dev = first; rest = commands base image })).dev) (r.from.1 ∙ still_new depth image r.from.0)

  by_start : (s : JournalSuper) → super_of (body_at image base) ≡ Ok s → (none : Bool) → (s.start == 0) ≡ none
      → IsSeenAs last (if none then device_over depth image else (driven epoch_machine steer (record { dev = device_over depth image; rest = commands base image })).dev)
  by_start s read true is = seen_read last (device_over depth image) (attempt.empty s read (eqb-true s.start 0 is))
  by_start s read false is = seen_same last _ (ran s read (λ h. true≢false (sym (subst (λ (n : ℕ). (n == 0) ≡ true) (sym h) refl) ∙ is)))

  by_super : (r : Result JournalSuper JournalFault) → super_of (body_at image base) ≡ r → IsSeenAs last (attempted_by depth base image steer r)
  by_super (Ok s) read = by_start s read (s.start == 0) refl
  by_super (Err fault) read = seen_read last (device_over depth image) (attempt.none fault read)

  seen_as : IsSeenAs last (attempted depth base image steer)
  unfolding attempted
  seen_as = by_super (super_of (body_at image base)) refl

-- attempts on model devices are the function's
pub on_model_devices : (depth base : ℕ) (image : List (List ℕ)) (lines : List (List Steer)) (attempts : List Attempt) (left : List (List ℕ)) → AreAttempts epoch_machine (device_over depth) base image lines attempts left
    → (attempts ≡ attempts_of depth base image lines) × (left ≡ image_after depth base image lines)
on_model_devices depth base image [] [] left made = (refl, made)
on_model_devices depth base image [] (a ∷ others) left made = absurd made
on_model_devices depth base image (l ∷ ls) [] left made = absurd made
on_model_devices depth base image (l ∷ ls) (a ∷ others) left made =
    let last = made.0 in
    let same = seen_as depth base image (choices_of l) last made.1 in
    let more = on_model_devices depth base last.surface ls others left made.3 in (
      ap (λ (x : Attempt). x ∷ others) (made.2 ∙ same.told)
          ∙ ap (λ (x : List Attempt). told_of (seen (attempted depth base image (choices_of l))) ∷ x) (more.0 ∙ ap (λ (i : List (List ℕ)). attempts_of depth base i ls) same.surface),
      more.1 ∙ ap (λ (i : List (List ℕ)). image_after depth base i ls) same.surface,
    )
