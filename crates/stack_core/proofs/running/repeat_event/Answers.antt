-- One event more, or one that did nothing.
use Rattle.std.proofs.Common.{◌≡◌, ◌-◌, ◌+◌, sym, ap, ◌∙◌, rules}
use Rattle.order_model.specs.Machine.{machine_of}
use Rattle.stack_core.specs.Core.{RunState, happens, times}
use Rattle.stack_core.proofs.Repeats.{times-more, times-ends, same_run}
use Rattle.stack_core.proofs.running.repeat_event.Goals as goal

pub loop-i-preserved : goal.loop-i-preserved
loop-i-preserved g c =
    let d = g.D.OrderedDev in
    let k = g.S.Scheduler in
    let m = machine_of d in
    let f = λ (s : RunState k.State d.State). happens k.steps m c.args.requests.now s c.args.event in
    let now : RunState k.State d.State = record { path = c.loop-i.path; sched = k.state c.loop-i.sched; dev = d.state c.loop-i.dev } in
    record {
      run = ap (times (c.args.count - (c.loop-i.i + 1)) f) c.do_event.ensures.step ∙ (sym (times-more c.args.count c.loop-i.i f now c.loop-i-test.true) ∙ c.loop-i.invariant.run);
      valid = c.do_event.ensures.valid;
      scheduler = c.do_event.ensures.scheduler;
      base = c.do_event.ensures.base ∙ c.loop-i.invariant.base;
      path = c.do_event.ensures.path;
    }

pub returns-then-not-do_event-clause-step : goal.returns-then-not-do_event-clause-step
returns-then-not-do_event-clause-step g c =
    let d = g.D.OrderedDev in
    let k = g.S.Scheduler in
    let m = machine_of d in
    let f = λ (s : RunState k.State d.State). happens k.steps m c.args.requests.now s c.args.event in
    let now : RunState k.State d.State = record { path = c.loop-i.path; sched = k.state c.loop-i.sched; dev = d.state c.loop-i.dev } in
    let after : RunState k.State d.State = record { path = c.do_event.new.path; sched = k.state c.do_event.new.sched; dev = d.state c.do_event.new.dev } in
    let none = c.do_event.ensures.idle (search rules) in
    let same : after ≡ now = same_run c.loop-i.path c.do_event.new.path (k.state c.loop-i.sched) (k.state c.do_event.new.sched) (d.state c.loop-i.dev) (d.state c.do_event.new.dev) none.0 none.1 none.2 in
    times-ends (c.args.count - c.loop-i.i) f now after c.do_event.ensures.step same ∙ c.loop-i.invariant.run
