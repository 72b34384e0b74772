-- Along the repeats: those that are left from here end where all of them from the start do.
use Rattle.std.proofs.Common.{◌≡◌, ◌-◌}
use Rattle.order_model.specs.Machine.{machine_of}
use Rattle.stack_core.specs.RequestPath.{PathFits}
use Rattle.stack_core.specs.Core.{happens, times}
use Rattle.stack_core.proofs.running.repeat_event.Given as goal

abbrev pub invariant-loop-i : goal.invariant-loop-i
invariant-loop-i g l =
    let d = g.D.OrderedDev in
    let k = g.S.Scheduler in
    let m = machine_of d in
    record {
      run : times (l.count - l.i) (λ s. happens k.steps m l.requests s l.event) (record { path = l.path; sched = k.state l.sched; dev = d.state l.dev })
          ≡ times l.count (λ s. happens k.steps m l.requests s l.event) (record { path = l.fn.path; sched = k.state l.fn.sched; dev = d.state l.fn.dev });
      valid : d.valid (d.state l.dev);
      scheduler : k.valid (k.state l.sched);
      base : (d.seen (d.state l.dev)).base ≡ (d.seen (d.state l.fn.dev)).base;
      path : PathFits l.path (k.steps.seen (k.state l.sched)) l.requests (d.seen (d.state l.dev));
    }
