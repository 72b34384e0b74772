use Rattle.std.proofs.Common.{◌≡◌, List, [], sym, subst}
use Rattle.order_model.specs.declared.command.Command.{Command}
use Rattle.order_model.specs.declared.request.Request.{Request}
use Rattle.schedulers.specs.reassign.Scheduler.{SchedSteps}
use Rattle.thread_sides.specs.declared.events.SchedEvent.{SchedEvent}
use Rattle.thread_sides.specs.SchedReplay.{SchedNow, IsSchedReplay}
use Rattle.thread_sides.proofs.SchedSteps.{opens}
use Rattle.thread_sides.proofs.sched_side.SchedSide.open.Goals as goal

with_none : {K : Type 0} (k : SchedSteps K) (first : K) (now : SchedNow K) (events : List SchedEvent) (sent : List Command) (taken : List Request) → events ≡ []
    → IsSchedReplay k first (record { now = now; events = []; sent = sent; taken = taken }) → IsSchedReplay k first (record { now = now; events = events; sent = sent; taken = taken })
with_none k first now events sent taken none is = subst (λ (l : List SchedEvent). IsSchedReplay k first (record { now = now; events = l; sent = sent; taken = taken })) (sym none) is

pub invariant_of-result : goal.invariant_of-result
invariant_of-result g c =
    let k = g.S.Scheduler in
    let asked = c.requires in
    with_none k.steps _ _ _ _ _ c.new.ensures.items (opens k.steps _ _ (k.state (g.S.OpensScheduler.opened g.N.PartNames.setup.limit)) (k.state c.args.sched) _ _ _ asked.opened asked.new asked.flags asked.ends.1 asked.ends.0)
