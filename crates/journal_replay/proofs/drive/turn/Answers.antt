use Rattle.std.proofs.Common.{sym, ap, ◌∙◌, subst, ◌<◌, ⊎_elim, inl, inr, arith}
use Rattle.journal_replay.specs.Driving.{Driven}
use Rattle.journal_replay.specs.laws.Ends.{unsent}
use Rattle.order_model.specs.Machine.{Machine, machine_of}
use Rattle.journal_replay.proofs.drive.turn.Goals as goal

pub returns-clause-unsent : goal.returns-clause-unsent
returns-clause-unsent g c none =
    let d = g.D.OrderedDev in
    let m : Machine d.State = machine_of d in
    ap (λ (x : Driven d.State). x.rest) (c.send.ensures.sent ∙ unsent m (d.state c.args.dev.now) c.args.plan.now none)

pub returns-clause-falls : goal.returns-clause-falls
returns-clause-falls g c none running default work =
    let d = g.D.OrderedDev in
    let m : Machine d.State = machine_of d in
    let old = d.state c.args.dev.now in
    let same = ap (λ (x : Driven d.State). x.dev) (c.send.ensures.sent ∙ unsent m old c.args.plan.now none) in
    let can = ⊎_elim (λ (h : 0 < d.can_transfer old). inl (subst (λ (s : d.State). 0 < d.can_transfer s) (sym same) h)) (λ (h : 0 < d.can_persist old). inr (subst (λ (s : d.State). 0 < d.can_persist s) (sym same) h)) work in
    let less = c.step.ensures.falls default can in
    let kept = c.drain.ensures.left in
    let start = ap d.work_left same in
    omega arith
