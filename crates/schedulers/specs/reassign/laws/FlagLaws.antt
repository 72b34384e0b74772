-- The command of a pick is a barrier exactly where the scheduler was blocked and is so no longer: by the counts alone.
use Rattle.std.specs.Prelude.{◌≡◌, ℕ, ◌+◌, ◌||◌, ◌↔◌, Bool, true, false, ◌++◌, count_by, Some, refl, if◌then◌else◌}
use Rattle.std.specs.Option.{option_to_list}
use Rattle.std.proofs.Common.{ap, ◌∙◌, arith}
use Rattle.std.proofs.lemmas.List.Sums.{sum_by_push}
use Rattle.order_model.specs.declared.command.Command.{Command}
use Rattle.order_model.specs.declared.request.Request.{Request}
use Rattle.order_model.specs.OrderClosed.{is_flush}
use Rattle.schedulers.specs.reassign.Scheduler.{SchedSteps, IsScheduler}

abbrev one_if : Bool → ℕ
one_if b = if b then 1 else 0

one_less : (flag before after : Bool) → one_if flag + one_if after ≡ one_if before → (flag ≡ true) ↔ ((before ≡ true) × (after ≡ false))
one_less true true true e = absurd (omega (arith, e))
one_less true true false e = (λ t. (refl, refl), λ h. refl)
one_less true false after e = absurd (let some : 1 + one_if after ≡ 0 = e in omega (arith, some))
one_less false true true e = (λ t. absurd (cc), λ h. absurd (cc))
one_less false true false e = absurd (omega (arith, e))
one_less false false after e = (λ t. absurd (cc), λ h. absurd (cc))

pub flag_unblocks : {S : Type 0} (steps : SchedSteps S) (valid : S → Type 0) → IsScheduler steps valid → (s : S) (pick : ℕ) (c : Command) → valid s → steps.command s pick ≡ Some c
    → (c.barrier ≡ true) ↔ (((steps.seen s).blocked ≡ true) × ((steps.seen (steps.dispatched s pick)).blocked ≡ false))
flag_unblocks steps valid laws s pick c v e =
    let old = steps.seen s in
    let new = steps.seen (steps.dispatched s pick) in
    let d = laws.dispatches s pick v in
    let before = (laws.carries s v).count in
    let after = (laws.carries (steps.dispatched s pick) d.0).count in
    let fences = ap (count_by (λ (r : Request). r.barrier || is_flush r.kind)) d.1.accepted in
    let sent = ap (count_by (λ (x : Command). x.barrier)) (d.1.sent_out ∙ ap (λ o. old.sent_out ++ option_to_list o) e) in
    let push = sum_by_push (λ (x : Command). if x.barrier then 1 else 0) old.sent_out c in
    one_less c.barrier old.blocked new.blocked (omega (arith, before, after, fences, sent, push))
