-- What waits in a scheduler: while something does a command can be sent, and fewer wait behind it; once nothing waits the
-- scheduler accepts, and all that it accepted is in the commands that it sent out.
use Rattle.std.specs.Prelude.{◌≡◌, ℕ, ◌==◌, ◌&&◌, ◌<◌, ◌≤◌, ◌⊎◌, true, false, not, List, [], ◌∷◌, ◌++◌, length, map, Option, Some, None, is_some, nat_lt, slice_get, refl}
use Rattle.std.specs.Option.{option_to_list}
use Rattle.std.proofs.Common.{sym, ap, subst, ◌∙◌, inl, inr, ⊎_elim, arith}
use Rattle.std.proofs.lemmas.Bool.{cases_Bool, false≢true, lt-ltb}
use Rattle.std.proofs.lemmas.Option.{same_Some}
use Rattle.blk_base.specs.Members.{In}
use Rattle.blk_base.specs.laws.Members.{In-push, In-append_left, In-append_right, In-slice_get, slice_get-In, slice_get-length, map-In}
use Rattle.order_model.specs.declared.part.Part.{Part}
use Rattle.order_model.specs.declared.command.Command.{Command}
use Rattle.order_model.specs.declared.request.Kind.{Kind}
use Rattle.order_model.specs.declared.request.Kind.TheVariants.{Put, Flush}
use Rattle.order_model.specs.declared.request.Request.{Request}
use Rattle.order_model.specs.Carrying.{SchedSeen, Carries, IsCarriedBy, IsWaitingAt, IsSentIn}
use Rattle.order_model.specs.Received.{all_ids, ids_of}
use Rattle.order_model.proofs.Received.{length-all_ids-push, id_at-first}
use Rattle.schedulers.specs.reassign.Scheduler.{SchedSteps, IsScheduler}

-- a command has an id
has_ids : (parts : List Part) (flush : Option ℕ) → is_some flush ≡ (length parts == 0) → 0 < length (map (λ (p : Part). p.id) parts ++ option_to_list flush)
has_ids [] None whole = absurd (false≢true whole)
has_ids [] (Some id) whole = omega arith
has_ids (p ∷ ps) flush whole = omega arith

-- a command that carries a request has its id
carried_id : (id : ℕ) (kind : Kind) (c : Command) → IsCarriedBy id kind c → In id (ids_of c)
carried_id id (Put block body) c carried = In-append_left (map (λ (p : Part). p.id) c.parts) (option_to_list c.flush) id (map-In (λ (p : Part). p.id) c.parts (record { id = id; block = block; body = body }) carried)
carried_id id Flush c carried = In-append_right (map (λ (p : Part). p.id) c.parts) (option_to_list c.flush) id (subst (λ o. In id (option_to_list o)) (sym carried) (inl refl))

id_there : (cs : List Command) (n : ℕ) (c : Command) (id : ℕ) → slice_get cs n ≡ Some c → In id (ids_of c) → In id (all_ids cs)
id_there cs n c id sent named = let place = In-slice_get (ids_of c) id named in slice_get-In (all_ids cs) _ id (id_at-first cs n c place.0 id sent place.2)

none_in : (l : List ℕ) (id : ℕ) → length l ≡ 0 → In id l → ⊥
none_in [] id none there = there
none_in (x ∷ xs) id none there = absurd (omega (arith, none))

-- where nothing waits, each request that was accepted was sent out
pub accepted_sent : (s : SchedSeen) → Carries s → length s.waiting ≡ 0 → (i : ℕ) (r : Request) → slice_get s.accepted i ≡ Some r → In r.id (all_ids s.sent_out)
accepted_sent s v none i r taken = ⊎_elim waits (λ (q : (n : ℕ) × IsSentIn s i n). sent q.0 q.1) (v.somewhere i (slice_get-length s.accepted i r taken))
  where
    waits : IsWaitingAt s i → In r.id (all_ids s.sent_out)
    waits w = absurd (none_in s.waiting w.request.id none w.waits)

    sent : (n : ℕ) → IsSentIn s i n → In r.id (all_ids s.sent_out)
    sent n q =
        let same = same_Some q.request r (sym q.taken ∙ taken) in
        subst (λ (r : Request). In r.id (all_ids s.sent_out)) same (id_there s.sent_out n q.command q.request.id q.sent (carried_id q.request.id q.request.kind q.command q.carried))

module _ {K : Type 0} (k : SchedSteps K) (valid : K → Type 0) (is : IsScheduler k valid) (p : K) (ok : valid p) where
  -- while something waits, there is a command
  pub next_command : 0 < length (k.seen p).waiting → (c : Command) × (k.command p 0 ≡ Some c)
  next_command waits = by (k.command p 0) refl
    where
      by : (o : Option Command) → k.command p 0 ≡ o → (c : Command) × (o ≡ Some c)
      by (Some c) e = (c, refl)
      by None e = (let most = (is.none p 0 ok).0 e in let some = is.some p ok waits in absurd (omega (arith, most, some)))

  -- once a command was sent, fewer wait
  pub fewer_wait : (c : Command) → k.command p 0 ≡ Some c → length (k.seen (k.dispatched p 0)).waiting < length (k.seen p).waiting
  fewer_wait c e =
      let step = is.dispatches p 0 ok in
      let new = k.dispatched p 0 in
      let out : (k.seen new).sent_out ≡ (k.seen p).sent_out ++ c ∷ [] = step.1.sent_out ∙ ap (λ o. (k.seen p).sent_out ++ option_to_list o) e in
      let before = (is.carries p ok).counted in
      let after = (is.carries new step.0).counted in
      let ids = ap (λ l. length (all_ids l)) out ∙ length-all_ids-push (k.seen p).sent_out c in
      let same = ap length step.1.accepted in
      let here : In c (k.seen new).sent_out = subst (In c) (sym out) (In-push (k.seen p).sent_out c) in
      let some = has_ids c.parts c.flush ((is.carries new step.0).whole c here) in
      omega (arith, before, after, ids, same, some)

  -- once nothing waits, a request is accepted
  pub accepts_again : length (k.seen p).waiting ≡ 0 → 1 ≤ (k.seen p).capacity → k.can_accept p ≡ true
  accepts_again none room = is.can p ok ∙ by (cases_Bool (k.seen p).blocked)
    where
      by : ((k.seen p).blocked ≡ true) ⊎ ((k.seen p).blocked ≡ false) → (not (k.seen p).blocked && nat_lt (length (k.seen p).waiting) (k.seen p).capacity) ≡ true
      by (inl e) = (let some = is.blocked p ok e in absurd (omega (arith, some, none)))
      by (inr e) = ap (λ b. not b && nat_lt (length (k.seen p).waiting) (k.seen p).capacity) e ∙ lt-ltb (length (k.seen p).waiting) (k.seen p).capacity (omega (arith, none, room))
