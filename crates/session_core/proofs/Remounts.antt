-- What recovery made of a script's session, on any device, on model devices and on flash logs.
use Rattle.std.proofs.Common.{◌≡◌, ℕ, List, Some, None, IfOk, Ok, Err, Result, refl, sym, ap, subst, ◌∙◌, arith}
use Rattle.blk_base.specs.declared.memory.NoMemory.{NoMemory}
use Rattle.order_model.specs.Machine.{Machine}
use Rattle.device_epochs.specs.Device.{DeviceState, seen}
use Rattle.flog_device.specs.Device as flash
use Rattle.flog_device.specs.Device.{FlogState}
use Rattle.stack_core.specs.Core.{epoch_machine, flash_machine}
use Rattle.stack_core.specs.Fresh.{device_over, flash_over}
use Rattle.line_grammar.specs.declared.events.steer.Steer.{Steer}
use Rattle.volume_ops.specs.Volume.{VolumeState}
use Rattle.mount_make.specs.Images.{mounted}
use Rattle.call_sessions.specs.declared.power_cuts.recovery.attempts.Attempt.{Attempt}
use Rattle.call_sessions.specs.power_cuts.calls.CallImages.{IsMountedBehind, attempts_of, image_after}
use Rattle.session_grammar.specs.declared.session_script.SessionScript.{SessionScript}
use Rattle.session_core.specs.Core.{IsNewFor, core_as, core_on, device_for, flash_for, geometry_of}
use Rattle.session_core.specs.Headline.{HeadlineOn}
use Rattle.session_core.specs.Report.{HasAttempts, IsReportAs, IsReportOf}
use Rattle.session_core.specs.declared.report.SessionReport.{SessionReport}

-- the attempts that were made over a copy of what the power cut left
pub attempts_are : {S : Type 0} (m : Machine S) (fresh : List (List ℕ) → S) (s : SessionScript) (image : List (List ℕ)) (attempts : List Attempt) (v : VolumeState) (base : ℕ) (copy : List (List ℕ)) (lines : List (List Steer))
    → base ≡ (geometry_of s).zones → copy ≡ image → lines ≡ s.recovers → IsMountedBehind m fresh base copy lines attempts v → IsMountedBehind m fresh (geometry_of s).zones image s.recovers attempts v
attempts_are m fresh s image attempts v base copy lines zones same recovers is =
    subst (λ b. IsMountedBehind m fresh b image s.recovers attempts v) zones
    (subst (λ (x : List (List ℕ)). IsMountedBehind m fresh base x s.recovers attempts v) same
    (subst (λ (l : List (List Steer)). IsMountedBehind m fresh base copy l attempts v) recovers is))

-- ---- on model devices

-- the device that a script opens is new for it
pub model_is_new : (s : SessionScript) (dev : DeviceState) → dev ≡ device_for s → IsNewFor s (seen dev)
model_is_new s dev e = subst (λ (d : DeviceState). IsNewFor s (seen d)) (sym e) (record {
  image = refl;
  setup = record { depth = refl; cut_at = refl; fail_at = refl };
  untouched = record { took = refl; moved = refl; sent = refl; steps = refl; transfers_made = refl; faults = refl };
  ids = omega arith;
})

-- attempts on model devices are those that the function has
abbrev pub FollowFunction : SessionScript → Type 0
FollowFunction s =
    (r : SessionReport) (has : HasAttempts epoch_machine (device_over s.header.depth) s r)
    → (r.attempts.items ≡ attempts_of s.header.depth (geometry_of s).zones r.cut.image.items s.recovers) × (has.left ≡ image_after s.header.depth (geometry_of s).zones r.cut.image.items s.recovers)

core_report : (s : SessionScript) (r : SessionReport) → FollowFunction s → IsReportOf s (core_as s None) r → HasAttempts epoch_machine (device_over s.header.depth) s r → IsReportAs s None r
core_report s r law report has = record { report = report; attempts = record { attempts = (law r has).0; left = ap mounted (sym (law r has).1) ∙ has.mounts } }

pub model_reports : (s : SessionScript) (r : Result SessionReport NoMemory) (dev : DeviceState) → dev ≡ device_for s → FollowFunction s
    → IfOk r (IsReportOf s (core_on epoch_machine s dev)) → IfOk r (HasAttempts epoch_machine (device_over s.header.depth) s) → IfOk r (IsReportAs s None)
model_reports s (Err e) dev same law report has = tt
model_reports s (Ok r) dev same law report has = core_report s r law (subst (λ (d : DeviceState). IsReportOf s (core_on epoch_machine s d) r) same report) has

pub model_headlines : (s : SessionScript) (r : Result SessionReport NoMemory) (dev : DeviceState) → dev ≡ device_for s → IfOk r (HeadlineOn s (core_on epoch_machine s dev)) → IfOk r (HeadlineOn s (core_as s None))
model_headlines s r dev same is = subst (λ (d : DeviceState). IfOk r (HeadlineOn s (core_on epoch_machine s d))) same is

-- ---- on flash logs

-- the flash log that a script opens is new for it
pub flash_is_new : (s : SessionScript) (segments : ℕ) (dev : FlogState) → dev ≡ flash_for s segments → IsNewFor s (flash.seen dev)
flash_is_new s segments dev e = subst (λ (d : FlogState). IsNewFor s (flash.seen d)) (sym e) (record {
  image = refl;
  setup = record { depth = refl; cut_at = refl; fail_at = refl };
  untouched = record { took = refl; moved = refl; sent = refl; steps = refl; transfers_made = refl; faults = refl };
  ids = omega arith;
})

pub flash_reports : (s : SessionScript) (segments : ℕ) (r : Result SessionReport NoMemory) (dev : FlogState) → dev ≡ flash_for s segments
    → IfOk r (IsReportOf s (core_on flash_machine s dev)) → IfOk r (HasAttempts flash_machine (flash_over s.header.depth segments) s) → IfOk r (IsReportAs s (Some segments))
flash_reports s segments (Err e) dev same report has = tt
flash_reports s segments (Ok r) dev same report has = record { report = subst (λ (d : FlogState). IsReportOf s (core_on flash_machine s d) r) same report; attempts = has }

pub flash_headlines : (s : SessionScript) (segments : ℕ) (r : Result SessionReport NoMemory) (dev : FlogState) → dev ≡ flash_for s segments → IfOk r (HeadlineOn s (core_on flash_machine s dev)) → IfOk r (HeadlineOn s (core_as s (Some segments)))
flash_headlines s segments r dev same is = subst (λ (d : FlogState). IfOk r (HeadlineOn s (core_on flash_machine s d))) same is
