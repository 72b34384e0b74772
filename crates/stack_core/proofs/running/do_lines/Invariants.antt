-- Along the lines: the rest of them from here ends where all of them from the start do.
use Rattle.std.proofs.Common.{◌≡◌, drop}
use Rattle.order_model.specs.Machine.{machine_of}
use Rattle.stack_core.specs.RequestPath.{PathFits}
use Rattle.stack_core.specs.Core.{run_lines}
use Rattle.stack_core.proofs.running.do_lines.Given as goal

abbrev pub invariant-loop-line : goal.invariant-loop-line
invariant-loop-line g l =
    let d = g.D.OrderedDev in
    let k = g.S.Scheduler in
    let m = machine_of d in
    record {
      run : run_lines k.steps m l.requests (record { path = l.path; sched = k.state l.sched; dev = d.state l.dev }) (drop l.line-index l.lines)
          ≡ run_lines k.steps m l.requests (record { path = l.fn.path; sched = k.state l.fn.sched; dev = d.state l.fn.dev }) l.lines;
      valid : d.valid (d.state l.dev);
      scheduler : k.valid (k.state l.sched);
      base : (d.seen (d.state l.dev)).base ≡ (d.seen (d.state l.fn.dev)).base;
      path : PathFits l.path (k.steps.seen (k.state l.sched)) l.requests (d.seen (d.state l.dev));
    }
