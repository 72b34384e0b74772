-- One thread more.
use Rattle.std.proofs.Common.{◌+◌, ◌-◌, sym, ap, ◌∙◌}
use Rattle.order_model.specs.Machine.{machine_of}
use Rattle.session_core.specs.run.code.Session.{state_of}
use Rattle.session_core.proofs.RunLemmas.Lines.{run, calls_from, calls_more, calls_end}
use Rattle.session_core.proofs.run.running.RunningSession.call_all.Goals as goal

pub do_event-requires : goal.do_event-requires
do_event-requires g c = (c.requires.0, c.loop-before.invariant.reached c.requires.0 c.requires.1)

pub loop-before-preserved : goal.loop-before-preserved
loop-before-preserved g c =
    let k = g.S.Scheduler in
    let d = g.D.OrderedDev in
    let old = c.loop-before in
    record {
      step = λ b at.
          ap (λ r. run b.opening k.steps (machine_of d) r (calls_from (old.before + 1 + 1) (c.args.threads - (old.before + 1)))) (c.in_ok-do_event.ensures.step b (old.invariant.reached b at))
          ∙ sym (calls_more b.opening k.steps (machine_of d) (state_of k d old.self) c.args.threads old.before c.loop-before-test.true) ∙ old.invariant.step b at;
      reached = λ b at. c.in_ok-do_event.ensures.reached b (old.invariant.reached b at);
    }

pub returns : goal.returns
returns g c =
    let k = g.S.Scheduler in
    let d = g.D.OrderedDev in
    let end = c.loop-before in
    record {
      step = λ b at. sym (calls_end b.opening k.steps (machine_of d) (state_of k d end.self) c.args.threads end.before c.loop-before-test.false) ∙ end.invariant.step b at;
      reached = λ b at. end.invariant.reached b at;
    }
