-- The model device of the script's numbers is the one that the script opens.
use Rattle.std.proofs.Common.{◌≡◌, ◌≤◌, length, IfOk, sym, ap, subst, ◌∙◌, arith}
use Rattle.device_epochs.specs.Device.{DeviceState}
use Rattle.stack_core.specs.Core.{EndState, core, core_as, end_on, epoch_machine}
use Rattle.stack_core.specs.Report.{IsReportOf}
use Rattle.stack_core.proofs.Opening.{headline_of}
use Rattle.stack_core.proofs.running.run_on_model.Goals as goal

pub run_on-requires-clause-image : goal.run_on-requires-clause-image
run_on-requires-clause-image c = ap (λ (d : DeviceState). d.base) c.in_ok-dev.ensures

pub run_on-requires-clause-unused : goal.run_on-requires-clause-unused
run_on-requires-clause-unused c = ap (λ (d : DeviceState). d.took) c.in_ok-dev.ensures

pub run_on-requires-clause-ids : goal.run_on-requires-clause-ids
run_on-requires-clause-ids c =
    let s = c.args.script.now in
    subst (λ (d : DeviceState). length s.puts ≤ d.limit) (sym c.in_ok-dev.ensures) (omega arith)

pub returns-clause-core : goal.returns-clause-core
returns-clause-core c =
    let s = c.args.script.now in
    let same : end_on epoch_machine s c.in_ok-dev.dev ≡ core s = ap (end_on epoch_machine s) c.in_ok-dev.ensures ∙ ap (core_as s) (sym c.requires.model) in
    subst (λ (end : EndState). IfOk c.run_on.result (IsReportOf s end)) same c.run_on.ensures.core

pub returns-clause-order : goal.returns-clause-order
returns-clause-order c =
    let s = c.args.script.now in
    let same : end_on epoch_machine s c.in_ok-dev.dev ≡ core s = ap (end_on epoch_machine s) c.in_ok-dev.ensures ∙ ap (core_as s) (sym c.requires.model) in
    headline_of c.run_on.result s (end_on epoch_machine s c.in_ok-dev.dev) same c.run_on.ensures.core c.run_on.ensures.order
