-- The scheduler may be given what waits first.
use Rattle.std.proofs.Common.{subst}
use Rattle.stack_core.specs.RequestPath.{PathFits}
use Rattle.stack_core.proofs.Scheduled.{acceptable}
use Rattle.stack_core.proofs.request_path.RequestPath.step.Goals as goal

pub accept-requires : goal.accept-requires
accept-requires g c = λ r qs first.
    let d = c.requires.0 in
    let p = g.S.Scheduler.steps.seen (g.S.Scheduler.state c.args.sched.now) in
    acceptable c.args.requests.now c.in-Scheduled.queues p d (subst (λ f. PathFits f p c.args.requests.now d) c.in-Scheduled.is c.requires.1) r qs first
