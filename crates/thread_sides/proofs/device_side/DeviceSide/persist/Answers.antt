use Rattle.std.proofs.Common.{◌∷◌, [], ◌++◌, refl, ap, ◌∙◌, arith}
use Rattle.order_model.specs.Machine.{machine_of}
use Rattle.thread_sides.specs.declared.events.DeviceEvent.TheVariants.{Persist}
use Rattle.thread_sides.specs.DeviceReplay.{Writes}
use Rattle.thread_sides.proofs.DeviceSteps.{went_on}
use Rattle.thread_sides.proofs.device_side.DeviceSide.persist.Goals as goal

pub invariant_of-self-2 : goal.invariant_of-self-2
invariant_of-self-2 g c =
    let t = g.D.OrderedDev in
    let s = t.state c.self.inside.dev in
    let can = c.can_persist.ensures in
    let apart = c.if-pick-can_persist.false in
    let step = (g.met.D.OrderedDev.persists s c.args.pick c.blocks-2.ensures.valid (omega (arith, can, apart))).1 in
    went_on (machine_of t) _ _ c.self.invariant (Persist c.args.pick) (Writes c.args.pick) (t.persisted s c.args.pick) _ _ (λ l. refl) refl refl step.given c.persist.ensures.state
    (c.push_reserved.ensures.items ∙ ap (λ l. l ++ Persist c.args.pick ∷ []) c.reserve.ensures.items)
