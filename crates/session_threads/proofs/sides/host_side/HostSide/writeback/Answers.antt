use Rattle.std.proofs.Common.{◌∷◌, [], ◌++◌, refl, ap, ◌∙◌}
use Rattle.thread_sides.specs.declared.events.HostEvent.TheVariants.{Writeback}
use Rattle.session_threads.proofs.SidesLemmas.HostSteps.{other_turn, stays, writeback_noted, writeback_idle}
use Rattle.session_threads.proofs.sides.host_side.HostSide.writeback.Goals as goal

pub invariant_of-self-in-Did : goal.invariant_of-self-in-Did
invariant_of-self-in-Did g c =
    let said = c.writeback-turn.ensures in
    writeback_noted _ _ _ c.self.invariant c.writeback-turn.new.self c.writeback-turn.result c.writeback-turn.new.out.passed said.same said.sent c.args.pick _ said.step c.in-Did.is
    (c.push_reserved.ensures.items ∙ ap (λ l. l ++ Writeback c.args.pick ∷ []) c.reserve.ensures.items)

pub invariant_of-self-in-Idle : goal.invariant_of-self-in-Idle
invariant_of-self-in-Idle g c =
    let said = c.writeback-turn.ensures in
    let turn = c.writeback-turn.result in
    let new = c.writeback-turn.new.self in
    let sent = c.writeback-turn.new.out.passed in
    stays _ _ _ c.self.invariant new _ sent _ (writeback_idle _ _ _ c.self.invariant new turn sent said.same said.sent c.args.pick said.step (other_turn turn c.in-Idle.is)) c.reserve.ensures.items said.sent refl
