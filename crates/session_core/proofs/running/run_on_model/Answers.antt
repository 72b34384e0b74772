use Rattle.std.proofs.Common.{ℕ, IfOk, subst}
use Rattle.stack_core.specs.Core.{epoch_machine}
use Rattle.stack_core.specs.Fresh.{device_over}
use Rattle.session_core.specs.Core.{geometry_of}
use Rattle.session_core.specs.Report.{HasAttempts}
use Rattle.session_core.proofs.Remounts.{FollowFunction, model_is_new, model_reports, model_headlines}
use Rattle.session_core.proofs.running.run_on_model.Goals as goal

pub run_opened-requires-clause-device : goal.run_opened-requires-clause-device
run_opened-requires-clause-device c = model_is_new c.args.script.now c.in_ok-dev.dev c.in_ok-dev.ensures

pub returns-clause-report : goal.returns-clause-report
returns-clause-report c =
    let s = c.args.script.now in
    let law : FollowFunction s = λ r has. c.attempts_on_model_devices.ensures s.header.depth (geometry_of s).zones r.cut.image.items s.recovers r.attempts.items has.left has.made in
    model_reports s c.run_opened.result c.in_ok-dev.dev c.in_ok-dev.ensures law c.run_opened.ensures.report
    (subst (λ (depth : ℕ). IfOk c.run_opened.result (HasAttempts epoch_machine (device_over depth) s)) c.make.ensures c.run_opened.ensures.attempts)

pub returns-clause-headline : goal.returns-clause-headline
returns-clause-headline c = model_headlines c.args.script.now c.run_opened.result c.in_ok-dev.dev c.in_ok-dev.ensures c.run_opened.ensures.headline
