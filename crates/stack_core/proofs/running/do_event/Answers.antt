-- An event before the device keeps what holds between request path, scheduler and device.
use Rattle.std.proofs.Common.{sym, subst}
use Rattle.stack_core.specs.RequestPath.{PathState}
use Rattle.stack_core.proofs.Paths.{IsBefore, stepped-path}
use Rattle.stack_core.proofs.running.do_event.Goals as goal

pub returns-in-Submit-clause-scheduler : goal.returns-in-Submit-clause-scheduler
returns-in-Submit-clause-scheduler g c =
    let t = g.D.OrderedDev in
    let k = g.S.Scheduler in
    let d = t.seen (t.state c.args.dev.now) in
    let rs = c.args.requests.now in
    let old : PathState k.State = record { path = c.args.path.now; sched = k.state c.args.sched.now } in
    (subst (λ r. IsBefore k.steps k.valid r rs d) (sym c.step.ensures.step) (stepped-path k.steps k.valid rs old c.args.event d g.met.S.Scheduler.keeps c.requires.scheduler c.requires.path)).keeps

pub returns-in-Submit-clause-path : goal.returns-in-Submit-clause-path
returns-in-Submit-clause-path g c =
    let t = g.D.OrderedDev in
    let k = g.S.Scheduler in
    let d = t.seen (t.state c.args.dev.now) in
    let rs = c.args.requests.now in
    let old : PathState k.State = record { path = c.args.path.now; sched = k.state c.args.sched.now } in
    (subst (λ r. IsBefore k.steps k.valid r rs d) (sym c.step.ensures.step) (stepped-path k.steps k.valid rs old c.args.event d g.met.S.Scheduler.keeps c.requires.scheduler c.requires.path)).path
