use Rattle.std.proofs.Common.{◌≡◌, ◌∷◌, [], ◌++◌, is_some, Option, false, Some, None, refl, sym, ap, ◌∙◌}
use Rattle.std.proofs.lemmas.Bool.{true≢false}
use Rattle.order_model.specs.declared.command.Command.{Command}
use Rattle.order_model.specs.Machine.{machine_of}
use Rattle.thread_sides.specs.Admitted.{may_take}
use Rattle.thread_sides.specs.declared.events.DeviceEvent.TheVariants.{Receive}
use Rattle.thread_sides.proofs.DeviceSteps.{may_receive, received, put_aside}
use Rattle.thread_sides.proofs.device_side.DeviceSide.receive.Goals as goal

none_of : (o : Option Command) → is_some o ≡ false → o ≡ None
none_of None e = refl
none_of (Some r) e = absurd (true≢false e)

pub take_in-requires-clause-command : goal.take_in-requires-clause-command
take_in-requires-clause-command g c =
    may_receive (machine_of g.D.OrderedDev) _ _ c.self.invariant c.in-Some.command (none_of _ (sym c.is_some.ensures ∙ c.if-is_some.false))
    (sym (ap (λ n. may_take c.self.inside.flags n c.in-Some.command) c.blocks-blocks.ensures.count) ∙ sym c.take_receivable.ensures.value ∙ c.if-take_receivable.true)

pub invariant_of-self-then-take_receivable : goal.invariant_of-self-then-take_receivable
invariant_of-self-then-take_receivable g c =
    let t = g.D.OrderedDev in
    let s = t.state c.self.inside.dev in
    let none = none_of _ (sym c.is_some.ensures ∙ c.if-is_some.false) in
    let may = sym (ap (λ n. may_take c.self.inside.flags n c.in-Some.command) c.blocks-blocks.ensures.count) ∙ sym c.take_receivable.ensures.value ∙ c.if-take_receivable.true in
    let can = may_receive (machine_of t) _ _ c.self.invariant c.in-Some.command none may in
    received (machine_of t) _ _ c.self.invariant c.in-Some.command _ _ _ _ none may
    (g.met.D.OrderedDev.receives s c.in-Some.command c.blocks-blocks.ensures.valid can (sym c.room.ensures ∙ c.if-not-room.false)).1 c.take_in.ensures (c.take_receivable.ensures.flags c.if-take_receivable.true)
    (c.push_reserved.ensures.items ∙ ap (λ l. l ++ Receive ∷ []) c.reserve.ensures.items) c.in-Some.ensures.taken

pub invariant_of-self-else-take_receivable : goal.invariant_of-self-else-take_receivable
invariant_of-self-else-take_receivable g c =
    put_aside (machine_of g.D.OrderedDev) _ _ c.self.invariant c.in-Some.command _ _ _ (none_of _ (sym c.is_some.ensures ∙ c.if-is_some.false))
    (sym (ap (λ n. may_take c.self.inside.flags n c.in-Some.command) c.blocks-blocks.ensures.count) ∙ sym c.take_receivable.ensures.value ∙ c.if-take_receivable.false) c.clear.ensures
    (c.push_reserved-else-take_receivable.ensures.items ∙ ap (λ l. l ++ Receive ∷ []) c.reserve.ensures.items) c.in-Some.ensures.taken
