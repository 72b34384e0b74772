use Rattle.std.proofs.Common.{◌∷◌, [], ◌++◌, true, false, sym, ap, ◌∙◌}
use Rattle.thread_sides.specs.declared.events.SchedEvent.TheVariants.{Dispatch}
use Rattle.thread_sides.proofs.SchedSteps.{kept_went, picked_went, picked_kept}
use Rattle.thread_sides.proofs.sched_side.SchedSide.dispatch.Goals as goal

pub invariant_of-self-in-Ok : goal.invariant_of-self-in-Ok
invariant_of-self-in-Ok g c =
    kept_went _ _ g.met.S.Scheduler.keeps _ _ c.self.invariant c.in-Some.command c.args.pick _ _ _ (sym c.take.ensures.value ∙ c.in-Some.is) c.take.ensures.after
    (c.push_reserved.ensures.items ∙ ap (λ l. l ++ Dispatch c.args.pick false ∷ []) c.reserve.ensures.items) c.in-Ok.ensures.sent

pub invariant_of-self-in-Ok-put : goal.invariant_of-self-in-Ok-put
invariant_of-self-in-Ok-put g c =
    picked_went _ _ g.met.S.Scheduler.keeps _ _ c.self.invariant c.in-Some-dispatch.command c.args.pick _ c.can_accept.ensures.valid (sym c.take.ensures.value ∙ c.in_default.is) c.dispatch.ensures.state
    (sym c.in-Some-dispatch.is ∙ c.dispatch.ensures.command) _ _ _ c.take.ensures.after
    (c.push_reserved-in-Ok-put.ensures.items ∙ ap (λ l. l ++ Dispatch c.args.pick false ∷ []) c.reserve.ensures.items) c.in-Ok-put.ensures.sent

pub invariant_of-self-in-Err-put : goal.invariant_of-self-in-Err-put
invariant_of-self-in-Err-put g c =
    picked_kept _ _ g.met.S.Scheduler.keeps _ _ c.self.invariant c.in-Some-dispatch.command c.args.pick _ c.can_accept.ensures.valid (sym c.take.ensures.value ∙ c.in_default.is) c.dispatch.ensures.state
    (sym c.in-Some-dispatch.is ∙ c.dispatch.ensures.command) c.in-Err-put.back _ _ c.in-Err-put.ensures.back
    (c.push_reserved-in-Err-put.ensures.items ∙ ap (λ l. l ++ Dispatch c.args.pick true ∷ []) c.reserve.ensures.items) c.in-Err-put.ensures.kept
