-- The path hands the device its next command.
use Rattle.std.proofs.Common.{refl, sym, ap, subst, ◌∙◌}
use Rattle.order_model.specs.Machine.{machine_of}
use Rattle.stack_core.specs.declared.request_path.RequestPath.{RequestPath}
use Rattle.stack_core.specs.Handing.{Handing}
use Rattle.stack_core.specs.RequestPath.{given}
use Rattle.stack_core.proofs.Paths.{given_receivable, IsHanded, path-handed, received_handed}
use Rattle.stack_core.proofs.running.receive_next.Goals as goal

pub hand_to-requires : goal.hand_to-requires
hand_to-requires g c = λ command next e.
    let t = g.D.OrderedDev in
    let k = g.S.Scheduler in
    let s = t.state c.args.dev.now in
    let sched = k.state c.args.sched.now in
    given_receivable c.args.requests.now c.args.path.now next (k.steps.seen sched) command (t.seen s) c.requires.path
    (g.met.S.Scheduler.keeps.carries sched c.requires.scheduler) (g.met.D.OrderedDev.surface s c.requires.valid).blocks e

pub returns : goal.returns
returns g c =
    let t = g.D.OrderedDev in
    let k = g.S.Scheduler in
    let m = machine_of t in
    let s = t.state c.args.dev.now in
    let sched = k.state c.args.sched.now in
    let rs = c.args.requests.now in
    let p = k.steps.seen sched in
    let old : Handing RequestPath t.State = record { before = c.args.path.now; dev = s } in
    let held = path-handed m t.valid g.met.D.OrderedDev.receives rs p old c.requires.valid c.requires.path
    (g.met.S.Scheduler.keeps.carries sched c.requires.scheduler) (g.met.D.OrderedDev.surface s c.requires.valid).blocks in
    let after = subst (IsHanded m t.valid g.met.D.OrderedDev.receives rs p s) (sym c.hand_to.ensures.step) held in
    record {
      step = ap (λ (h : Handing RequestPath t.State). record { path = h.before; sched = sched; dev = h.dev }) c.hand_to.ensures.step ∙ received_handed m sched old (given rs c.args.path.now);
      valid = after.keeps;
      scheduler = c.requires.scheduler;
      base = after.base;
      path = after.path;
      idle = λ none. let same = c.hand_to.ensures.idle none in (same.0, refl, same.1);
    }
