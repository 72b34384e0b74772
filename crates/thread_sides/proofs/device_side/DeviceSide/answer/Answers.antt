use Rattle.std.proofs.Common.{◌∷◌, [], ◌++◌, true, false, sym, ap, ◌∙◌}
use Rattle.order_model.specs.Machine.{machine_of}
use Rattle.thread_sides.specs.declared.events.DeviceEvent.TheVariants.{Answer}
use Rattle.thread_sides.proofs.DeviceSteps.{kept_went, answer_went, answer_kept}
use Rattle.thread_sides.proofs.device_side.DeviceSide.answer.Goals as goal

pub invariant_of-self-in-Ok : goal.invariant_of-self-in-Ok
invariant_of-self-in-Ok g c =
    kept_went (machine_of g.D.OrderedDev) _ _ c.self.invariant c.in-Some.completion _ _ c.in-Some.is
    (c.push_reserved.ensures.items ∙ ap (λ l. l ++ Answer false ∷ []) c.reserve.ensures.items) c.in-Ok.ensures.sent

pub invariant_of-self-in-Ok-put : goal.invariant_of-self-in-Ok-put
invariant_of-self-in-Ok-put g c =
    let t = g.D.OrderedDev in
    answer_went (machine_of t) _ _ c.self.invariant c.in-Some-answer.completion _ c.in_default.is c.answer.ensures.state (sym c.in-Some-answer.is ∙ c.answer.ensures.value)
    (g.met.D.OrderedDev.answers (t.state c.self.inside.dev) c.blocks-2.ensures.valid).1 _ _ _ c.in_default.is
    (c.push_reserved-in-Ok-put.ensures.items ∙ ap (λ l. l ++ Answer false ∷ []) c.reserve.ensures.items) c.in-Ok-put.ensures.sent

pub invariant_of-self-in-Err-put : goal.invariant_of-self-in-Err-put
invariant_of-self-in-Err-put g c =
    let t = g.D.OrderedDev in
    answer_kept (machine_of t) _ _ c.self.invariant c.in-Some-answer.completion _ c.in_default.is c.answer.ensures.state (sym c.in-Some-answer.is ∙ c.answer.ensures.value)
    (g.met.D.OrderedDev.answers (t.state c.self.inside.dev) c.blocks-2.ensures.valid).1 c.in-Err-put.back _ _ c.in-Err-put.ensures.back
    (c.push_reserved-in-Err-put.ensures.items ∙ ap (λ l. l ++ Answer true ∷ []) c.reserve.ensures.items) c.in-Err-put.ensures.kept
