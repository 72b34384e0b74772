-- The request that was found is the one that was picked.
use Rattle.std.proofs.Common.{ap, sym, subst, ◌∙◌}
use Rattle.schedulers.specs.reassign.Epoch.{EpochState, leaving, departed}
use Rattle.schedulers.specs.reassign.code.Kept.{IsPicked}
use Rattle.schedulers.proofs.ReassignLemmas.Leaving.{picked-at, picked-may_leave}
use Rattle.schedulers.proofs.reassign.queue.EpochQueue.leave.Goals as goal

pub leave_at-requires : goal.leave_at-requires
leave_at-requires c = λ w at.
    let s = c.args.self.now in
    let found = subst (λ (q : EpochState). IsPicked q.waiting c.args.pick c.in_ok-at.at) c.self.view_is c.in_ok-at.ensures in
    picked-may_leave c.args.pick c.in_ok-at.at s.waiting w found at

pub returns-clause-given : goal.returns-clause-given
returns-clause-given c =
    let s = c.args.self.now in
    let found = subst (λ (q : EpochState). IsPicked q.waiting c.args.pick c.in_ok-at.at) c.self.view_is c.in_ok-at.ensures in
    c.leave_at.ensures.given ∙ ap (leaving s) (sym (picked-at c.args.pick c.in_ok-at.at s.waiting found))

pub returns-clause-state : goal.returns-clause-state
returns-clause-state c =
    let s = c.args.self.now in
    let found = subst (λ (q : EpochState). IsPicked q.waiting c.args.pick c.in_ok-at.at) c.self.view_is c.in_ok-at.ensures in
    c.leave_at.ensures.state ∙ ap (departed s) (sym (picked-at c.args.pick c.in_ok-at.at s.waiting found))
