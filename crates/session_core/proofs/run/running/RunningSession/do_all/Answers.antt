-- One event more.
use Rattle.std.proofs.Common.{◌+◌, drop, sym, ap, ◌∙◌}
use Rattle.order_model.specs.Machine.{machine_of}
use Rattle.line_grammar.specs.declared.events.event.CoreEvent.TheVariants as events
use Rattle.session_core.specs.run.code.Session.{state_of}
use Rattle.session_core.proofs.RunLemmas.Lines.{run, all_more, all_end}
use Rattle.session_core.proofs.run.running.RunningSession.do_all.Goals as goal

pub do_event-requires : goal.do_event-requires
do_event-requires g c = (c.requires.0, c.loop-event.invariant.reached c.requires.0 c.requires.1)

pub loop-event-preserved : goal.loop-event-preserved
loop-event-preserved g c =
    let k = g.S.Scheduler in
    let d = g.D.OrderedDev in
    let old = c.loop-event in
    record {
      step = λ b at.
          ap (λ r. run b.opening k.steps (machine_of d) r (drop (old.event-index + 1) c.args.list.now)) (c.in_ok-do_event.ensures.step b (old.invariant.reached b at))
          ∙ sym (all_more b.opening k.steps (machine_of d) (state_of k d old.self) c.args.list.now old.event-index (events.Call 0) c.loop-event-test.true) ∙ old.invariant.step b at;
      reached = λ b at. c.in_ok-do_event.ensures.reached b (old.invariant.reached b at);
    }

pub returns : goal.returns
returns g c =
    let k = g.S.Scheduler in
    let d = g.D.OrderedDev in
    let end = c.loop-event in
    record {
      step = λ b at. sym (all_end b.opening k.steps (machine_of d) (state_of k d end.self) c.args.list.now end.event-index c.loop-event-test.false) ∙ end.invariant.step b at;
      reached = λ b at. end.invariant.reached b at;
    }
