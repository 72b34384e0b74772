-- One line more.
use Rattle.std.proofs.Common.{◌+◌, drop, sym, ap, ◌∙◌}
use Rattle.script_grammar.specs.declared.script.EventLine.{EventLine}
use Rattle.script_grammar.specs.declared.script.EventWord.TheVariants.{One}
use Rattle.script_grammar.specs.declared.script.CoreEvent.TheVariants.{Submit}
use Rattle.order_model.specs.Machine.{machine_of}
use Rattle.stack_core.specs.Core.{run_lines}
use Rattle.stack_core.proofs.Repeats.{run_lines-more, run_lines-end}
use Rattle.stack_core.proofs.running.do_lines.Goals as goal

pub loop-line-preserved : goal.loop-line-preserved
loop-line-preserved g c =
    let d = g.D.OrderedDev in
    let k = g.S.Scheduler in
    let m = machine_of d in
    let rs = c.args.requests.now in
    let lines = c.args.lines.now in
    let n = c.loop-line.line-index in
    -- what the loop reads where there is no line
    let none : EventLine = record { what = One Submit; count = 0 } in
    let more = run_lines-more k.steps m rs (record { path = c.loop-line.path; sched = k.state c.loop-line.sched; dev = d.state c.loop-line.dev }) lines n none c.loop-line-test.true in
    record {
      run = ap (λ r. run_lines k.steps m rs r (drop (n + 1) lines)) c.do_line.ensures.step ∙ (sym more ∙ c.loop-line.invariant.run);
      valid = c.do_line.ensures.valid;
      scheduler = c.do_line.ensures.scheduler;
      base = c.do_line.ensures.base ∙ c.loop-line.invariant.base;
      path = c.do_line.ensures.path;
    }

pub returns-clause-run : goal.returns-clause-run
returns-clause-run g c =
    let d = g.D.OrderedDev in
    let k = g.S.Scheduler in
    let m = machine_of d in
    sym (run_lines-end k.steps m c.args.requests.now (record { path = c.loop-line.path; sched = k.state c.loop-line.sched; dev = d.state c.loop-line.dev }) c.args.lines.now c.loop-line.line-index c.loop-line-test.false) ∙ c.loop-line.invariant.run
