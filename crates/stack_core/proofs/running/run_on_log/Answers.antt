-- The flash log of the script's numbers is the one that the script opens.
use Rattle.std.proofs.Common.{◌≡◌, ◌≤◌, length, IfOk, sym, ap, subst, ◌∙◌, arith}
use Rattle.flog_device.specs.Device.{FlogState}
use Rattle.stack_core.specs.Core.{EndState, core, core_as, end_on, flash_machine}
use Rattle.stack_core.specs.Report.{IsReportOf}
use Rattle.stack_core.proofs.Opening.{headline_of}
use Rattle.stack_core.proofs.running.run_on_log.Goals as goal

pub run_on-requires-clause-image : goal.run_on-requires-clause-image
run_on-requires-clause-image c = ap (λ (d : FlogState). d.base) c.in_ok-dev.ensures

pub run_on-requires-clause-unused : goal.run_on-requires-clause-unused
run_on-requires-clause-unused c = ap (λ (d : FlogState). d.took) c.in_ok-dev.ensures

pub run_on-requires-clause-ids : goal.run_on-requires-clause-ids
run_on-requires-clause-ids c =
    let s = c.args.script.now in
    subst (λ (d : FlogState). length s.puts ≤ d.limit) (sym c.in_ok-dev.ensures) (omega arith)

pub returns-clause-core : goal.returns-clause-core
returns-clause-core c =
    let s = c.args.script.now in
    let same : end_on flash_machine s c.in_ok-dev.dev ≡ core s = ap (end_on flash_machine s) c.in_ok-dev.ensures ∙ ap (core_as s) (sym c.requires.flash) in
    subst (λ (end : EndState). IfOk c.run_on.result (IsReportOf s end)) same c.run_on.ensures.core

pub returns-clause-order : goal.returns-clause-order
returns-clause-order c =
    let s = c.args.script.now in
    let same : end_on flash_machine s c.in_ok-dev.dev ≡ core s = ap (end_on flash_machine s) c.in_ok-dev.ensures ∙ ap (core_as s) (sym c.requires.flash) in
    headline_of c.run_on.result s (end_on flash_machine s c.in_ok-dev.dev) same c.run_on.ensures.core c.run_on.ensures.order
