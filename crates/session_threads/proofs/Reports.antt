-- What a power cut left of a session in threads, on the scheduler and the device that a script names.
use Rattle.std.proofs.Common.{◌≡◌, ℕ, Bool, true, false, Option, Some, IfOk, Result, Ok, Err, unwrap_or, sym, ap, subst, ◌∙◌}
use Rattle.blk_base.specs.declared.memory.NoMemory.{NoMemory}
use Rattle.order_model.specs.Machine.{Machine}
use Rattle.schedulers.specs.declared.reassign.scheduler.TheConstants.{CAPACITY}
use Rattle.schedulers.specs.reassign.Sched as plain
use Rattle.schedulers.specs.elevator.Elevator as elevator
use Rattle.stack_core.specs.Core.{epoch_machine, flash_machine}
use Rattle.stack_core.specs.Fresh.{device_over}
use Rattle.flog_device.specs.Device as flash
use Rattle.flog_device.specs.Device.{FlogState}
use Rattle.mount_make.specs.Images.{mounted}
use Rattle.session_grammar.specs.declared.session_script.SessionScript.{SessionScript}
use Rattle.session_core.specs.Core.{flash_for, opening_of}
use Rattle.session_core.specs.Report.{HasAttempts, HasModelAttempts}
use Rattle.session_core.specs.declared.report.SessionReport.{SessionReport}
use Rattle.session_core.proofs.Remounts.{FollowFunction}
use Rattle.thread_sides.specs.Opened.{flog_setup}
use Rattle.session_threads.specs.Ran.{LeftBy, LeftWith, RanWith, part_setup}
use Rattle.session_threads.specs.declared.report.ThreadsEnd.{ThreadsEnd}

-- ---- on the scheduler that a script names

elevator_left : {S : Type 0} (m : Machine S) (s : SessionScript) (dev : S) (b : Bool) (left : ThreadsEnd) → b ≡ true → LeftBy elevator.elevator_steps m s (elevator.opened s.header.limit CAPACITY) dev left → LeftWith m s dev b left
elevator_left m s dev b left e x = record { end = x.end; ran = subst (λ (a : Bool). RanWith m s dev a left.effects x.end) (sym e) x.ran; is = x.is }

plain_left : {S : Type 0} (m : Machine S) (s : SessionScript) (dev : S) (b : Bool) (left : ThreadsEnd) → b ≡ false → LeftBy plain.sched_steps m s (plain.opened s.header.limit CAPACITY) dev left → LeftWith m s dev b left
plain_left m s dev b left e x = record { end = x.end; ran = subst (λ (a : Bool). RanWith m s dev a left.effects x.end) (sym e) x.ran; is = x.is }

pub on_elevator : {S : Type 0} (m : Machine S) (s : SessionScript) (dev : S) (b : Bool) (r : Result ThreadsEnd NoMemory) → b ≡ true → IfOk r (LeftBy elevator.elevator_steps m s (elevator.opened s.header.limit CAPACITY) dev) → IfOk r (LeftWith m s dev b)
on_elevator m s dev b (Ok left) e is = elevator_left m s dev b left e is
on_elevator m s dev b (Err fault) e is = tt

pub on_plain : {S : Type 0} (m : Machine S) (s : SessionScript) (dev : S) (b : Bool) (r : Result ThreadsEnd NoMemory) → b ≡ false → IfOk r (LeftBy plain.sched_steps m s (plain.opened s.header.limit CAPACITY) dev) → IfOk r (LeftWith m s dev b)
on_plain m s dev b (Ok left) e is = plain_left m s dev b left e is
on_plain m s dev b (Err fault) e is = tt

-- ---- its attempts

pub model_attempts : (s : SessionScript) (r : SessionReport) → FollowFunction s → HasAttempts epoch_machine (device_over s.header.depth) s r → HasModelAttempts s r
model_attempts s r law has = record { attempts = (law r has).0; left = ap mounted (sym (law r has).1) ∙ has.mounts }

-- ---- the flash log of a script

pub flash_opened : (s : SessionScript) (segments : ℕ) → s.header.flash ≡ Some segments → flash_for s segments ≡ flash.opened (opening_of s).image (flog_setup (part_setup s))
flash_opened s segments e = ap (λ (x : Option ℕ). flash.opened (opening_of s).image (record { depth = s.header.depth; limit = s.header.limit; segments = unwrap_or x 0; fail_at = s.header.fail; cut_at = s.header.cut })) (sym e)

pub left_of_flash : (s : SessionScript) (segments : ℕ) (left : ThreadsEnd) → s.header.flash ≡ Some segments → LeftWith flash_machine s (flash.opened (opening_of s).image (flog_setup (part_setup s))) s.header.elevator left → LeftWith flash_machine s (flash_for s segments) s.header.elevator left
left_of_flash s segments left e is = subst (λ (d : FlogState). LeftWith flash_machine s d s.header.elevator left) (sym (flash_opened s segments e)) is
