use Rattle.std.proofs.Common.{subst, ap, ◌∙◌}
use Rattle.stack_core.specs.Core.{flash_machine}
use Rattle.stack_core.specs.Fresh.{FlogNumbers, flash_over}
use Rattle.flog_device.specs.Device.{FlogState, seen}
use Rattle.session_core.specs.Report.{HasAttempts}
use Rattle.session_core.proofs.Remounts.{flash_is_new}
use Rattle.session_threads.proofs.Reports.{flash_opened, left_of_flash}
use Rattle.session_threads.proofs.running.run_on_flash.Goals as goal

pub run-requires-clause-device : goal.run-requires-clause-device
run-requires-clause-device g c = λ κs outlive. c.in-Ok.ensures ∙ flash_opened c.args.script.now c.args.segments c.requires.segments

pub run-requires-clause-new_device : goal.run-requires-clause-new_device
run-requires-clause-new_device g c = λ κs outlive. flash_is_new c.args.script.now c.args.segments c.in-Ok.dev c.in-Ok.ensures

pub run-requires-clause-ids : goal.run-requires-clause-ids
run-requires-clause-ids g c = λ κs outlive. ap (λ (d : FlogState). (seen d).limit) c.in-Ok.ensures

pub recover_session-requires-clause-end : goal.recover_session-requires-clause-end
recover_session-requires-clause-end g c = (c.in_ok-end.ensures.end, c.in_ok-end.ensures.is)

pub returns : goal.returns
returns g c =
    let s = c.args.script.now in
    let left = left_of_flash s c.args.segments c.in_ok-end.field-0 c.requires.segments c.in_ok-end.ensures in
    let said = c.in-Ok-recover_session.ensures in
    let has : HasAttempts flash_machine (flash_over s.header.depth c.args.segments) s c.in-Ok-recover_session.report =
    subst (λ (m : FlogNumbers). HasAttempts flash_machine (flash_over m.depth m.segments) s c.in-Ok-recover_session.report) c.make-maker.ensures said.attempts in
    record {
      end = left.end;
      ran = left.ran;
      report = said.report left.end left.is;
      headline = said.headline left.end left.is;
      attempts = has;
    }
