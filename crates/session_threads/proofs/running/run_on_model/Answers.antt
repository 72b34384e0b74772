use Rattle.std.proofs.Common.{ℕ, subst, ap}
use Rattle.stack_core.specs.Core.{epoch_machine}
use Rattle.stack_core.specs.Fresh.{device_over}
use Rattle.device_epochs.specs.Device.{DeviceState, seen}
use Rattle.session_core.specs.Core.{geometry_of}
use Rattle.session_core.specs.Report.{HasAttempts}
use Rattle.session_core.proofs.Remounts.{FollowFunction, model_is_new}
use Rattle.session_threads.proofs.Reports.{model_attempts}
use Rattle.session_threads.proofs.running.run_on_model.Goals as goal

pub run-requires-clause-new_device : goal.run-requires-clause-new_device
run-requires-clause-new_device g c = λ κs outlive. model_is_new c.args.script.now c.in-Ok.dev c.in-Ok.ensures

pub run-requires-clause-ids : goal.run-requires-clause-ids
run-requires-clause-ids g c = λ κs outlive. ap (λ (d : DeviceState). (seen d).limit) c.in-Ok.ensures

pub recover_session-requires-clause-end : goal.recover_session-requires-clause-end
recover_session-requires-clause-end g c = (c.in_ok-end.ensures.end, c.in_ok-end.ensures.is)

pub returns : goal.returns
returns g c =
    let s = c.args.script.now in
    let law : FollowFunction s = λ r has. c.attempts_on_model_devices.ensures s.header.depth (geometry_of s).zones r.cut.image.items s.recovers r.attempts.items has.left has.made in
    let left = c.in_ok-end.ensures in
    let said = c.in-Ok-recover_session.ensures in
    let has : HasAttempts epoch_machine (device_over s.header.depth) s c.in-Ok-recover_session.report =
    subst (λ (depth : ℕ). HasAttempts epoch_machine (device_over depth) s c.in-Ok-recover_session.report) c.make-maker.ensures said.attempts in
    record {
      end = left.end;
      ran = left.ran;
      report = said.report left.end left.is;
      headline = said.headline left.end left.is;
      attempts = model_attempts s c.in-Ok-recover_session.report law has;
    }
