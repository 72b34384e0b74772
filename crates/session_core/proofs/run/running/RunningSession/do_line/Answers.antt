-- Once more, or what did nothing.
use Rattle.std.proofs.Common.{◌+◌, ◌-◌, sym, ap, ◌∙◌, rules}
use Rattle.order_model.specs.Machine.{machine_of}
use Rattle.session_core.specs.run.machine.Machine.{repeated, word_events}
use Rattle.session_core.specs.run.code.Session.{state_of}
use Rattle.session_core.proofs.RunLemmas.Lines.{run, repeats_more, repeats_end, repeats_stop}
use Rattle.session_core.proofs.run.running.RunningSession.do_line.Goals as goal

pub do_word-requires : goal.do_word-requires
do_word-requires g c = (c.requires.0, c.loop-done.invariant.reached c.requires.0 c.requires.1)

pub loop-done-preserved : goal.loop-done-preserved
loop-done-preserved g c =
    let k = g.S.Scheduler in
    let d = g.D.OrderedDev in
    let old = c.loop-done in
    record {
      step = λ b at.
          ap (λ r. run b.opening k.steps (machine_of d) r (repeated (c.args.line.count - (old.done + 1)) (word_events c.args.threads c.args.line.what))) (c.in_ok-do_word.ensures.step b (old.invariant.reached b at))
          ∙ sym (repeats_more b.opening k.steps (machine_of d) (state_of k d old.self) (word_events c.args.threads c.args.line.what) c.args.line.count old.done c.loop-done-test.true) ∙ old.invariant.step b at;
      reached = λ b at. c.in_ok-do_word.ensures.reached b (old.invariant.reached b at);
    }

pub returns-then-not-branch-clause-step : goal.returns-then-not-branch-clause-step
returns-then-not-branch-clause-step g c =
    let k = g.S.Scheduler in
    let d = g.D.OrderedDev in
    let old = c.loop-done in
    let did = c.in_ok-do_word.ensures in
    λ b at.
    repeats_stop b.opening k.steps (machine_of d) (state_of k d old.self) (state_of k d c.do_word.new.self) (word_events c.args.threads c.args.line.what) (c.args.line.count - old.done)
    (did.step b (old.invariant.reached b at)) (did.idle (search rules)) ∙ old.invariant.step b at

pub returns : goal.returns
returns g c =
    let k = g.S.Scheduler in
    let d = g.D.OrderedDev in
    let end = c.loop-done in
    record {
      step = λ b at. sym (repeats_end b.opening k.steps (machine_of d) (state_of k d end.self) (word_events c.args.threads c.args.line.what) c.args.line.count end.done c.loop-done-test.false) ∙ end.invariant.step b at;
      reached = λ b at. end.invariant.reached b at;
    }
