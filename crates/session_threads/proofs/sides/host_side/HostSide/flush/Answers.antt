use Rattle.std.proofs.Common.{◌∷◌, [], ◌++◌, sym, ap, ◌∙◌}
use Rattle.thread_sides.specs.declared.events.HostEvent.TheVariants.{Flush, Take}
use Rattle.session_threads.proofs.SidesLemmas.HostSteps.{other_turn, flush_still, flush_noted, take_noted}
use Rattle.session_threads.proofs.sides.host_side.HostSide.flush.Goals as goal

pub invariant_of-self-in-Idle : goal.invariant_of-self-in-Idle
invariant_of-self-in-Idle g c =
    let said = c.flush_step-turn.ensures in
    let turn = c.flush_step-turn.result in
    flush_still _ _ _ c.self.invariant c.flush_step-turn.new.self turn c.flush_step-turn.new.out.passed said.same said.sent c.flush_step-turn.new.from.passed said.step said.taken _ (other_turn turn c.in-Idle.is) c.reserve.ensures.items

pub invariant_of-self-then-taken_count-taken : goal.invariant_of-self-then-taken_count-taken
invariant_of-self-then-taken_count-taken g c =
    let said = c.flush_step-turn.ensures in
    flush_noted _ _ _ c.self.invariant c.flush_step-turn.new.self c.flush_step-turn.result c.flush_step-turn.new.out.passed said.same said.sent c.flush_step-turn.new.from.passed said.step said.taken _ c.in-Did.is
    (sym c.taken_count.ensures ∙ c.if-taken_count-taken.true ∙ c.taken_count-taken.ensures)
    (c.push_reserved.ensures.items ∙ ap (λ l. l ++ Flush ∷ []) c.reserve.ensures.items)

pub invariant_of-self-else-taken_count-taken : goal.invariant_of-self-else-taken_count-taken
invariant_of-self-else-taken_count-taken g c =
    let said = c.flush_step-turn.ensures in
    take_noted _ _ _ c.self.invariant c.flush_step-turn.new.self c.flush_step-turn.result c.flush_step-turn.new.out.passed said.same said.sent c.flush_step-turn.new.from.passed said.step said.taken _ c.in-Did.is
    (λ e. c.if-taken_count-taken.false (c.taken_count.ensures ∙ e ∙ sym c.taken_count-taken.ensures))
    (c.push_reserved-else-taken_count-taken.ensures.items ∙ ap (λ l. l ++ Take ∷ []) c.reserve.ensures.items)
