-- Of a run that nothing stopped, the report has as many found transactions as closed ones.
use Rattle.std.proofs.Common.{◌≡◌, ℕ, Bool, true, false, length, Option, Some, None, ap, ◌∙◌}
use Rattle.order_model.specs.Machine.{Machine}
use Rattle.stack_core.specs.Core.{epoch_machine, flash_machine}
use Rattle.session_grammar.specs.declared.session_script.SessionScript.{SessionScript}
use Rattle.session_core.specs.CallEnds.{RanFreely}
use Rattle.session_core.specs.Core.{EndState, device_for, flash_for}
use Rattle.session_core.specs.Headline.{kept_in, medium_of}
use Rattle.thread_sides.specs.declared.events.Effects.{Effects}
use Rattle.session_threads.specs.Ran.{IsThreadsReport, IsUnstopped, RanAs, RanWith, medium_in}
use Rattle.session_threads.specs.declared.report.ThreadsReport.{ThreadsReport}

module _ (s : SessionScript) (effects : Effects) (end : EndState) where
  -- what is said of every scheduler and device
  abbrev FindsAll : Type 0
  FindsAll = (IsUnstopped s end → kept_in s end (medium_in end) ≡ length end.host.cuts) × (RanFreely s end → IsUnstopped s end)

  by_scheduler : {S : Type 0} (m : Machine S) (dev : S) (on_elevator : Bool) → RanWith m s dev on_elevator effects end → FindsAll
  by_scheduler m dev true ran = (ran.all_found, ran.unstopped)
  by_scheduler m dev false ran = (ran.all_found, ran.unstopped)

  by_device : (flash : Option ℕ) → RanAs s flash effects end → FindsAll
  by_device None ran = by_scheduler epoch_machine (device_for s) s.header.elevator ran
  by_device (Some segments) ran = by_scheduler flash_machine (flash_for s segments) s.header.elevator ran

pub found_all : (s : SessionScript) (flash : Option ℕ) (r : ThreadsReport) (is : IsThreadsReport s flash r) → IsUnstopped s is.end → r.report.found ≡ length is.end.host.cuts
found_all s flash r is free =
    let same : medium_of r.report ≡ medium_in is.end = λ i. record { image = is.report.image i; origins = is.report.origins i } in
    is.headline.counted ∙ ap (kept_in s is.end) same ∙ (by_device s r.effects is.end flash is.ran).0 free

pub found_freely : (s : SessionScript) (flash : Option ℕ) (r : ThreadsReport) (is : IsThreadsReport s flash r) → RanFreely s is.end → r.report.found ≡ length is.end.host.cuts
found_freely s flash r is free = found_all s flash r is ((by_device s r.effects is.end flash is.ran).1 free)
