-- The list of a scheduler is empty where nothing waits in it.
use Rattle.std.proofs.Common.{◌≡◌, ℕ, ◌<◌, ◌==◌, List, [], ◌∷◌, ◌++◌, length, map, Option, Some, None, is_some, refl, sym, ap, subst, ◌∙◌, arith}
use Rattle.std.specs.Option.{option_to_list}
use Rattle.std.proofs.lemmas.Bool.{false≢true}
use Rattle.std.proofs.lemmas.List.{length-append}
use Rattle.blk_base.specs.Members.{In}
use Rattle.blk_base.specs.laws.Members.{In-push}
use Rattle.order_model.specs.declared.part.Part.{Part}
use Rattle.order_model.specs.declared.command.Command.{Command}
use Rattle.order_model.specs.Received.{all_ids, ids_of}
use Rattle.schedulers.specs.reassign.Scheduler.{SchedSteps, IsScheduler}
use Rattle.thread_sides.proofs.Admitting.{all_ids_more}

-- a command has an id
has_ids : (parts : List Part) (flush : Option ℕ) → is_some flush ≡ (length parts == 0) → 0 < length (map (λ (p : Part). p.id) parts ++ option_to_list flush)
has_ids [] None whole = absurd (false≢true whole)
has_ids [] (Some id) whole = omega arith
has_ids (p ∷ ps) flush whole = omega arith

module _ {K : Type 0} (k : SchedSteps K) (valid : K → Type 0) (is : IsScheduler k valid) (s : K) (ok : valid s) where
  -- what was sent out has one command more, and so an id more than was accepted
  not_sent : (c : Command) → (k.seen s).waiting ≡ [] → k.command s 0 ≡ Some c → ⊥
  not_sent c none sent =
      let step = is.dispatches s 0 ok in
      let new = k.dispatched s 0 in
      let out : (k.seen new).sent_out ≡ (k.seen s).sent_out ++ c ∷ [] = step.1.sent_out ∙ ap (λ o. (k.seen s).sent_out ++ option_to_list o) sent in
      let before = (is.carries s ok).counted in
      let after = (is.carries new step.0).counted in
      let ids = ap (λ l. length (all_ids l)) out ∙ ap length (all_ids_more (k.seen s).sent_out c) ∙ length-append (all_ids (k.seen s).sent_out) (ids_of c) in
      let same = ap length step.1.accepted in
      let here : In c (k.seen new).sent_out = subst (In c) (sym out) (In-push (k.seen s).sent_out c) in
      let some = has_ids c.parts c.flush ((is.carries new step.0).whole c here) in
      let waits = ap length none in
      omega (arith, before, after, ids, same, some, waits)

  pub nothing_eligible : (k.seen s).waiting ≡ [] → k.eligible s ≡ 0
  nothing_eligible none = by (k.eligible s) (k.command s 0) refl refl
    where
      by : (n : ℕ) (o : Option Command) → k.eligible s ≡ n → k.command s 0 ≡ o → k.eligible s ≡ 0
      by n (Some c) count sent = absurd (not_sent c none sent)
      by n None count sent = let least = (is.none s 0 ok).0 sent in omega (arith, least)

  pub nothing_waits : k.eligible s ≡ 0 → (k.seen s).waiting ≡ []
  nothing_waits none = by (k.seen s).waiting (is.some s ok)
    where
      by : (l : List ℕ) → (0 < length l → 0 < k.eligible s) → l ≡ []
      by [] some = refl
      by (id ∷ ids) some = let more = some (omega arith) in absurd (omega (arith, more, none))
