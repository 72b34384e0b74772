use Rattle.std.proofs.Common.{◌∷◌, [], ◌++◌, ap, ◌∙◌}
use Rattle.thread_sides.specs.declared.events.HostEvent.TheVariants.{Take}
use Rattle.session_threads.proofs.SidesLemmas.HostSteps.{other_turn, take_still, took_noted}
use Rattle.session_threads.proofs.sides.host_side.HostSide.take.Goals as goal

pub invariant_of-self-in-Did : goal.invariant_of-self-in-Did
invariant_of-self-in-Did g c =
    let said = c.take_step-turn.ensures in
    took_noted _ _ _ c.self.invariant c.take_step-turn.new.self c.take_step-turn.result said.same c.take_step-turn.new.from.passed said.step said.taken _ c.in-Did.is
    (c.push_reserved.ensures.items ∙ ap (λ l. l ++ Take ∷ []) c.reserve.ensures.items)

pub invariant_of-self-in-Idle : goal.invariant_of-self-in-Idle
invariant_of-self-in-Idle g c =
    let said = c.take_step-turn.ensures in
    let turn = c.take_step-turn.result in
    take_still _ _ _ c.self.invariant c.take_step-turn.new.self turn said.same c.take_step-turn.new.from.passed said.step said.taken _ (other_turn turn c.in-Idle.is) c.reserve.ensures.items
