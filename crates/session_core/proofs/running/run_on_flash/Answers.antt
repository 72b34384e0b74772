use Rattle.std.proofs.Common.{IfOk, subst}
use Rattle.stack_core.specs.Core.{flash_machine}
use Rattle.stack_core.specs.Fresh.{FlogNumbers, flash_over}
use Rattle.session_core.specs.Report.{HasAttempts}
use Rattle.session_core.proofs.Remounts.{flash_is_new, flash_reports, flash_headlines}
use Rattle.session_core.proofs.running.run_on_flash.Goals as goal

pub run_opened-requires-clause-device : goal.run_opened-requires-clause-device
run_opened-requires-clause-device c = flash_is_new c.args.script.now c.args.segments c.in_ok-dev.dev c.in_ok-dev.ensures

pub returns-clause-report : goal.returns-clause-report
returns-clause-report c =
    let s = c.args.script.now in
    flash_reports s c.args.segments c.run_opened.result c.in_ok-dev.dev c.in_ok-dev.ensures c.run_opened.ensures.report
    (subst (λ (m : FlogNumbers). IfOk c.run_opened.result (HasAttempts flash_machine (flash_over m.depth m.segments) s)) c.make.ensures c.run_opened.ensures.attempts)

pub returns-clause-headline : goal.returns-clause-headline
returns-clause-headline c = flash_headlines c.args.script.now c.args.segments c.run_opened.result c.in_ok-dev.dev c.in_ok-dev.ensures c.run_opened.ensures.headline
