-- A word's events, one after the other.
use Rattle.std.proofs.Common.{sym, ap, ◌∙◌}
use Rattle.order_model.specs.Machine.{machine_of}
use Rattle.session_core.specs.run.machine.Machine.{word_events, back}
use Rattle.session_core.proofs.RunLemmas.MachineLemmas.SessionRuns.{events_append}
use Rattle.session_core.specs.run.code.Session.{state_of, after_events}
use Rattle.session_core.proofs.RunLemmas.Lines.{run, calls_from, one_event, ok_map}
use Rattle.session_core.proofs.run.running.RunningSession.do_word.Goals as goal

pub do_all-requires : goal.do_all-requires
do_all-requires g c = (c.requires.0, c.in_ok-call_all-in-Round.ensures.reached c.requires.0 c.requires.1)

pub returns-in-One-clause-step : goal.returns-in-One-clause-step
returns-in-One-clause-step g c =
    let k = g.S.Scheduler in
    let d = g.D.OrderedDev in
    let old = c.args.self.now in
    λ b at.
    ok_map c.do_event.result _ _
    (λ e.
    e ∙ sym (one_event b.opening k.steps (machine_of d) (state_of k d old) c.in-One.event)
    ∙ ap (λ w. after_events k d b.opening old (word_events c.args.threads w)) (sym c.in-One.is))
    (c.do_event.ensures.step b at)

pub returns-in_ok-do_all-in-Round-clause-step : goal.returns-in_ok-do_all-in-Round-clause-step
returns-in_ok-do_all-in-Round-clause-step g c =
    let k = g.S.Scheduler in
    let d = g.D.OrderedDev in
    let old = c.args.self.now in
    let called = c.in_ok-call_all-in-Round.ensures in
    λ b at.
    c.in_ok-do_all-in-Round.ensures.step b (called.reached b at)
    ∙ ap (λ r. run b.opening k.steps (machine_of d) r back) (called.step b at)
    ∙ sym (events_append b.opening k.steps (machine_of d) (state_of k d old) (calls_from 1 c.args.threads) back)
    ∙ ap (λ w. after_events k d b.opening old (word_events c.args.threads w)) (sym c.in-Round.is)

pub returns-in_ok-do_all-in-Back-clause-step : goal.returns-in_ok-do_all-in-Back-clause-step
returns-in_ok-do_all-in-Back-clause-step g c =
    let k = g.S.Scheduler in
    let d = g.D.OrderedDev in
    let old = c.args.self.now in
    λ b at. c.in_ok-do_all-in-Back.ensures.step b at ∙ ap (λ w. after_events k d b.opening old (word_events c.args.threads w)) (sym c.in-Back.is)
