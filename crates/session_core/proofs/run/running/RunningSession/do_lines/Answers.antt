-- One line more.
use Rattle.std.proofs.Common.{◌+◌, drop, sym, ap, ◌∙◌}
use Rattle.order_model.specs.Machine.{machine_of}
use Rattle.line_grammar.specs.declared.events.event.CoreEvent.TheVariants as events
use Rattle.line_grammar.specs.declared.events.event.EventLine.{EventLine}
use Rattle.line_grammar.specs.declared.events.event.EventWord.TheVariants.{One}
use Rattle.session_core.specs.run.machine.Machine.{events_of}
use Rattle.session_core.specs.run.code.Session.{state_of}
use Rattle.session_core.proofs.RunLemmas.Lines.{run, lines_more, lines_end}
use Rattle.session_core.proofs.run.running.RunningSession.do_lines.Goals as goal

pub do_line-requires : goal.do_line-requires
do_line-requires g c = (c.requires.0, c.loop-line.invariant.reached c.requires.0 c.requires.1)

pub loop-line-preserved : goal.loop-line-preserved
loop-line-preserved g c =
    let k = g.S.Scheduler in
    let d = g.D.OrderedDev in
    let old = c.loop-line in
    -- what the loop reads where there is no line
    let none : EventLine = record { what = One (events.Call 0); count = 0 } in
    record {
      step = λ b at.
          ap (λ r. run b.opening k.steps (machine_of d) r (events_of c.args.threads (drop (old.line-index + 1) c.args.lines.now))) (c.in_ok-do_line.ensures.step b (old.invariant.reached b at))
          ∙ sym (lines_more b.opening k.steps (machine_of d) c.args.threads (state_of k d old.self) c.args.lines.now old.line-index none c.loop-line-test.true) ∙ old.invariant.step b at;
      reached = λ b at. c.in_ok-do_line.ensures.reached b (old.invariant.reached b at);
    }

pub returns : goal.returns
returns g c =
    let k = g.S.Scheduler in
    let d = g.D.OrderedDev in
    let end = c.loop-line in
    record {
      step = λ b at. sym (lines_end b.opening k.steps (machine_of d) c.args.threads (state_of k d end.self) c.args.lines.now end.line-index c.loop-line-test.false) ∙ end.invariant.step b at;
      reached = λ b at. end.invariant.reached b at;
    }
