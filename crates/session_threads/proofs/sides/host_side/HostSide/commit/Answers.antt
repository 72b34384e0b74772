use Rattle.std.proofs.Common.{◌≡◌, ◌∷◌, [], ◌++◌, refl, sym, ap, ◌∙◌}
use Rattle.order_model.specs.declared.turn.Turn.{Turn}
use Rattle.order_model.specs.declared.turn.Turn.TheVariants as turns
use Rattle.thread_sides.specs.declared.events.HostEvent.TheVariants.{Commit}
use Rattle.session_threads.proofs.SidesLemmas.HostSteps.{other_turn, refused_or, stays, commit_noted, commit_idle}
use Rattle.session_threads.proofs.sides.host_side.HostSide.commit.Goals as goal

pub invariant_of-self-in-Did : goal.invariant_of-self-in-Did
invariant_of-self-in-Did g c =
    let said = c.commit_step-turn.ensures in
    let turn = c.in-Did.is in
    commit_noted _ _ _ c.self.invariant c.commit_step-turn.new.self c.commit_step-turn.result c.commit_step-turn.new.out.passed said.same said.sent _
    (said.step (λ e. let never : ◌≡◌ {A = Turn} turns.Did turns.NoMemory = sym turn ∙ e in cc never)) turn
    (c.push_reserved.ensures.items ∙ ap (λ l. l ++ Commit ∷ []) c.reserve.ensures.items)

pub invariant_of-self-in-Idle : goal.invariant_of-self-in-Idle
invariant_of-self-in-Idle g c =
    let said = c.commit_step-turn.ensures in
    let turn = c.commit_step-turn.result in
    let new = c.commit_step-turn.new.self in
    let sent = c.commit_step-turn.new.out.passed in
    let same = refused_or (new ≡ c.self.inside.host) turn c.in-Idle.is (λ e. (said.memory e).1) (λ e. commit_idle _ _ _ c.self.invariant new turn sent said.same said.sent (said.step e) (other_turn turn c.in-Idle.is)) in
    stays _ _ _ c.self.invariant new _ sent _ same c.reserve.ensures.items said.sent refl
