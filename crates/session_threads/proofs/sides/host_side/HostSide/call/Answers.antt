use Rattle.std.proofs.Common.{◌∷◌, [], ◌++◌, refl, sym, ap, ◌∙◌, ⊎_elim}
use Rattle.thread_sides.specs.declared.events.HostEvent.TheVariants.{Call}
use Rattle.session_threads.proofs.SidesLemmas.HostSteps.{stays, call_noted, call_still}
use Rattle.session_threads.proofs.sides.host_side.HostSide.call.Goals as goal

pub invariant_of-self-in-true : goal.invariant_of-self-in-true
invariant_of-self-in-true g c =
    let said = c.advance-step.ensures in
    call_noted _ _ _ c.self.invariant c.args.thread c.advance-step.new.self c.advance-step.result c.advance-step.new.out.passed said.step said.same said.sent _ (c.in-true.ensures.yes refl)
    (c.push_reserved.ensures.items ∙ ap (λ l. l ++ Call c.args.thread c.is_full-full.result ∷ []) c.reserve.ensures.items ∙ ap (λ x. c.self.inside.events.items ++ Call c.args.thread x ∷ []) c.is_full-full.ensures)

pub invariant_of-self-else-is_noted : goal.invariant_of-self-else-is_noted
invariant_of-self-else-is_noted g c =
    let said = c.advance-step.ensures in
    let new = c.advance-step.new.self in
    let sent = c.advance-step.new.out.passed in
    let same = ⊎_elim (λ refused. said.memory refused)
    (λ x. let marks = c.are_same-same.ensures x.0 in
    call_still _ _ _ c.self.invariant c.args.thread new c.advance-step.result sent said.step said.same said.sent x.1
    (record { wanted = sym c.marks_of-after.ensures.wanted ∙ sym (ap (λ m. m.wanted) marks) ∙ c.marks_of-before.ensures.wanted; wait = sym c.marks_of-after.ensures.wait ∙ sym (ap (λ m. m.wait) marks) ∙ c.marks_of-before.ensures.wait }))
    (c.in-false.ensures.no refl) in
    stays _ _ _ c.self.invariant new _ sent _ same c.reserve.ensures.items said.sent refl
