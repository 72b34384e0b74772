use Rattle.std.proofs.Common.{◌≡◌, ◌∷◌, [], ◌++◌, length, is_some, Option, false, Some, None, Result, Ok, Err, IsOk, OnOk, refl, sym, ap, ◌∙◌}
use Rattle.std.proofs.lemmas.Bool.{true≢false}
use Rattle.order_model.specs.declared.request.Request.{Request}
use Rattle.thread_sides.specs.Admitted.{may_accept}
use Rattle.thread_sides.specs.declared.events.SchedEvent.TheVariants.{Accept}
use Rattle.thread_sides.proofs.SchedSteps.{accepted, put_aside}
use Rattle.thread_sides.proofs.sched_side.SchedSide.accept.Goals as goal

none_of : (o : Option Request) → is_some o ≡ false → o ≡ None
none_of None e = refl
none_of (Some r) e = absurd (true≢false e)

ok_of : {A E : Type 0} (r : Result A E) (X : Type 0) → IsOk r → OnOk r X → X
ok_of (Ok a) X is x = x
ok_of (Err e) X is x = absurd (true≢false (sym is))

pub invariant_of-self-then-is_acceptable : goal.invariant_of-self-then-is_acceptable
invariant_of-self-then-is_acceptable g c =
    let can = sym c.can_accept.ensures.value ∙ c.if-not-can_accept.false in
    accepted _ _ g.met.S.Scheduler.keeps _ _ c.self.invariant c.in-Some.request _ _ _ _ (none_of _ (sym c.is_some.ensures ∙ c.if-is_some.false)) c.can_accept.ensures.valid can
    (sym (ap (λ n. may_accept c.self.inside.flags n c.in-Some.request) (c.len-accepted.ensures ∙ ap length c.trace.ensures.accepted)) ∙ sym c.is_acceptable.ensures ∙ c.if-is_acceptable.true)
    (ok_of c.accept.result _ (c.accept.ensures.when.1 can) c.accept.ensures.ok) c.mark.ensures
    (c.push_reserved.ensures.items ∙ ap (λ l. l ++ Accept ∷ []) c.reserve.ensures.items) c.in-Some.ensures.taken

pub invariant_of-self-else-is_acceptable : goal.invariant_of-self-else-is_acceptable
invariant_of-self-else-is_acceptable g c =
    put_aside _ _ g.met.S.Scheduler.keeps _ _ c.self.invariant c.in-Some.request _ _ (none_of _ (sym c.is_some.ensures ∙ c.if-is_some.false))
    (sym (ap (λ n. may_accept c.self.inside.flags n c.in-Some.request) (c.len-accepted.ensures ∙ ap length c.trace.ensures.accepted)) ∙ sym c.is_acceptable.ensures ∙ c.if-is_acceptable.false)
    (c.push_reserved-else-is_acceptable.ensures.items ∙ ap (λ l. l ++ Accept ∷ []) c.reserve.ensures.items) c.in-Some.ensures.taken
