-- What is kept is sent, or what the scheduler sends; or nothing is done.
use Rattle.std.proofs.Common.{Some, None, ap, ◌∙◌, rules}
use Rattle.stack_core.specs.BlockLayer.{queued_or_kept_option}
use Rattle.stack_core.specs.Dispatching.{DispatchState, with_dispatch}
use Rattle.stack_core.proofs.Dispatches.{sends_kept, sends_picked}
use Rattle.stack_core.proofs.dispatch_queue.DispatchQueue.dispatch.Goals as goal

pub returns-then-self-clause-step : goal.returns-then-self-clause-step
returns-then-self-clause-step g c = λ q.
    let k = g.S.Scheduler in
    sends_kept k.steps q c.args.self.now c.send_kept.new.self (k.state c.args.sched.now) c.args.pick c.self.inside.last (search rules) (c.send_kept.ensures.step q)

pub returns-then-not-dispatch_into-clause-step : goal.returns-then-not-dispatch_into-clause-step
returns-then-not-dispatch_into-clause-step g c = λ q.
    let k = g.S.Scheduler in
    let old = c.args.self.now in
    let now : DispatchState = record old { kept = None } in
    ap (λ (d : DispatchState). record { queues = with_dispatch q d; sched = k.state c.dispatch_into.new.self }) (search rules)
    ∙ sends_picked k.steps q old now (k.state c.args.sched.now) c.args.pick (k.state c.dispatch_into.new.self) None (search rules) c.if-not-dispatch_into.ensures.command c.dispatch_into.ensures.state (search rules)

pub returns-then-not-dispatch_into-clause-idle : goal.returns-then-not-dispatch_into-clause-idle
returns-then-not-dispatch_into-clause-idle g c = λ none.
    let k = g.S.Scheduler in
    (search rules, c.dispatch_into.ensures.state ∙ g.met.S.Scheduler.keeps.stays (k.state c.args.sched.now) c.args.pick c.if-not-dispatch_into.ensures.command)

pub returns-clause-step : goal.returns-clause-step
returns-clause-step g c = λ q.
    let k = g.S.Scheduler in
    let old = c.args.self.now in
    let sent = c.dispatch_into.new.into in
    sends_picked k.steps q old c.send_kept-2.new.self (k.state c.args.sched.now) c.args.pick (k.state c.dispatch_into.new.self) (Some sent) (search rules) c.if-not-dispatch_into.ensures.command c.dispatch_into.ensures.state
    (c.send_kept-2.ensures.step q ∙ ap (λ (d : DispatchState). queued_or_kept_option (with_dispatch q d) d.kept) (ap (λ (d : DispatchState). record d { kept = Some sent }) c.self.view_is))
