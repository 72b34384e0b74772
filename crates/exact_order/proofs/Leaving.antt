-- Each order-closed medium is left: by the events that go by the requests one after the other.
use Rattle.std.proofs.Common.{◌≡◌, ℕ, suc, ◌+◌, ◌<◌, ◌≤◌, ◌==◌, not, true, false, List, [], ◌∷◌, length, take, replicate, Option, Some, None, slice_get, refl, sym, ap, ap₂, subst, ◌∙◌, inl, inr, arith}
use Rattle.std.proofs.lemmas.Bool.{cases_Bool, false≢true, and_from, ne_eqb, not_from_false}
use Rattle.std.proofs.lemmas.List.{length-map, length-replicate, length-take-le}
use Rattle.std.proofs.lemmas.Option.{none-some}
use Rattle.blk_base.specs.Block.{filled}
use Rattle.blk_base.specs.Image.{zeros}
use Rattle.blk_base.specs.laws.Members.{In-replicate, slice_get-In, slice_get-length, slice_get-map_some, slice_get-replicate}
use Rattle.order_model.specs.declared.request.Request.{Request}
use Rattle.order_model.specs.OrderClosed.{IsOrderClosed}
use Rattle.order_model.specs.Device.{origin_ids}
use Rattle.order_model.proofs.OrderToTheMedium.{prefix-get}
use Rattle.order_model.proofs.OriginIds.{id_at}
use Rattle.schedulers.specs.declared.reassign.scheduler.TheConstants.{CAPACITY}
use Rattle.order_model.specs.Single.{command_of_request}
use Rattle.schedulers.specs.reassign.Epoch.{can_accept, is_open, leaves_flagged, unflagged}
use Rattle.schedulers.specs.reassign.Sched.{SchedState, accepted, sent, opened}
use Rattle.device_epochs.specs.Device.{DeviceState}
use Rattle.script_grammar.specs.declared.script.Script.{Script}
use Rattle.script_grammar.specs.declared.script.Form.{Form}
use Rattle.script_grammar.specs.declared.script.Form.TheVariants.{Device, Blocks}
use Rattle.script_grammar.specs.Grammar.{IsRequestOf, blocks_of, is_scheduled}
use Rattle.stack_core.specs.declared.request_path.RequestPath.{RequestPath}
use Rattle.stack_core.specs.declared.request_path.RequestPath.TheVariants.{Scheduled}
use Rattle.stack_core.specs.BlockLayer.{opened_queues}
use Rattle.stack_core.specs.RequestPath.{opened_as, scheduled_as}
use Rattle.stack_core.specs.Core.{RunState, run_lines, opened_for}
use Rattle.exact_order.specs.Left.{end_under, IsPlain}
use Rattle.exact_order.specs.Events.{is_wanted, with_block, events_for, places_used, events_to}
use Rattle.exact_order.proofs.Alone.{has_room-idle, passed}
use Rattle.exact_order.proofs.Forward.{opened_run, run_under, opened-reached, end-is, reached-closed}
use Rattle.exact_order.proofs.Images.{one-image, origins-are}
use Rattle.exact_order.proofs.Kept.{used-within}
use Rattle.exact_order.proofs.Passing.{resting, run, run-waiting, run-through}
use Rattle.exact_order.proofs.Reached.{run-reached}
use Rattle.exact_order.proofs.Standing.{IsMarked, IsWaiting, IsWritten, accepted-waiting, accepted-open, sent-waiting, sent-open, leaves-last, passed-written, left-written}
use Rattle.exact_order.proofs.Waiting.{none-held}

-- these are the requests from place n on, up to the last put that is kept
record IsAhead (rs : List Request) (origins : List (Option ℕ)) (n : ℕ) (rest : List Request) : Type 0 where
  pub at : (i : ℕ) (p : Request) → slice_get rest i ≡ Some p → slice_get rs (n + i) ≡ Some p
  pub ends : n + length rest ≡ places_used origins

module _ {base image : List (List ℕ)} {rs : List Request} {origins : List (Option ℕ)} (c : IsOrderClosed base rs image origins) (blocks : ℕ) (all : (i : ℕ) (q : Request) → slice_get rs i ≡ Some q → IsRequestOf blocks i q)
    (q : ℕ) (some : 0 < q) (fits : length rs ≤ CAPACITY) where
  -- the medium has the origins that it is to have
  abbrev HasOrigins : RunState SchedState DeviceState → Type 0
  HasOrigins r = IsMarked origins (places_used origins) (origin_ids r.dev.took r.dev.origins)

  -- fewer requests wait than the scheduler holds
  may_accept : (n : ℕ) (held : List ℕ) (s : SchedState) → n < length rs → IsWaiting rs origins n held s → is_open s.queue.closing ≡ true → can_accept s.queue ≡ true
  may_accept n held s lt w unblocked =
      let few = w.few in
      let room = w.capacity in
      and_from (is_open s.queue.closing) (not (length s.queue.waiting == s.queue.capacity)) unblocked
      (not_from_false (length s.queue.waiting == s.queue.capacity) (ne_eqb (length s.queue.waiting) s.queue.capacity (λ e. omega (arith, few, lt, fits, room, e))))

  ahead-first : (n : ℕ) (p : Request) (ps : List Request) → IsAhead rs origins n (p ∷ ps) → slice_get rs n ≡ Some p
  ahead-first n p ps a = let e : n ≡ n + 0 = omega arith in ap (slice_get rs) e ∙ a.at 0 p refl

  ahead-rest : (n : ℕ) (p : Request) (ps : List Request) → IsAhead rs origins n (p ∷ ps) → IsAhead rs origins (n + 1) ps
  ahead-rest n p ps a = record {
    at = λ i x e. let same : (n + 1) + i ≡ n + suc i = omega arith in ap (slice_get rs) same ∙ a.at (suc i) x e;
    ends = let ends = a.ends in omega (arith, ends);
  }

  pass : (rest : List Request) (n : ℕ) (held : List ℕ) (s : SchedState) (d : DeviceState) → IsAhead rs origins n rest → IsWaiting rs origins n held s → IsWritten blocks origins n d
      → (0 < length rest → is_open s.queue.closing ≡ true) → HasOrigins (run rs (resting q n s d) (events_for origins held rest))
  unfolding run_lines
  pass [] n held s d a w v unblocked =
      let ends = a.ends in
      let last : n ≡ places_used origins = omega (arith, ends) in
      subst (λ k. IsMarked origins k (origin_ids d.took d.origins)) last v.marked
  pass (p ∷ ps) n held s d a w v unblocked =
      let at = ahead-first n p ps a in
      let next = ahead-rest n p ps a in
      let ends = a.ends in
      let within : n < places_used origins = omega (arith, ends) in
      let named = (all n p at).named in
      let can = may_accept n held s (slice_get-length rs n p at) w (unblocked (omega arith)) in
      elim (cases_Bool (is_wanted origins p.id p.kind)) [
        | inl t ↦
            let wanted : is_wanted origins n p.kind ≡ true = subst (λ i. is_wanted origins i p.kind ≡ true) named t in
            let last = leaves-last c blocks all n p at within held s w p.kind refl wanted in
            let flagged = leaves_flagged (accepted s p).queue (record { number = s.queue.next; request = unflagged p }) in
            rw t
            (subst HasOrigins (sym (run-through rs q n p some at s d can (length held) (record { number = s.queue.next; request = unflagged p }) last (has_room-idle d v.idle) held refl (events_for origins held ps)))
            (pass ps (n + 1) held (sent (accepted s p) (Some (record { number = s.queue.next; request = unflagged p }))) (passed d (command_of_request (unflagged p) flagged)) next
            (sent-waiting c blocks all n p at within held s w)
            (passed-written c blocks all n p at within d v flagged p.kind refl wanted)
            (λ more. sent-open c blocks all n p at within held s w p.kind refl (omega (arith, ends, more)))))
        | inr f ↦
            let left : is_wanted origins n p.kind ≡ false = subst (λ i. is_wanted origins i p.kind ≡ false) named f in
            rw f
            (subst HasOrigins (sym (run-waiting rs q n p some at s d can (events_for origins (with_block held p.kind) ps)))
            (pass ps (n + 1) (with_block held p.kind) (accepted s p) d next
            (accepted-waiting c blocks all n p at within held s w left)
            (left-written c blocks all n p at within d left v)
            (λ more. accepted-open c blocks all n p at within held s w left)))
      ]

-- ---- the beginning

opened_as-scheduled : (s : Script) (k : Form) → is_scheduled k ≡ true → (opened_as s k ≡ Scheduled (opened_queues s.header.queue)) × (scheduled_as s k ≡ length s.puts)
opened_as-scheduled s (Device blocks) e = absurd (false≢true e)
opened_as-scheduled s (Blocks blocks) e = (refl, refl)

-- the scheduler and the device as they are made
abbrev new_scheduler : Script → SchedState
new_scheduler s = opened (length s.puts) CAPACITY

opened-resting : (s : Script) → is_scheduled s.kind ≡ true → opened_run s ≡ resting s.header.queue 0 (new_scheduler s) (opened_for s)
opened-resting s e =
    let same = opened_as-scheduled s s.kind e in
    ap₂ (λ (f : RequestPath) n. record { path = f; sched = opened n CAPACITY; dev = opened_for s }) same.0 same.1

new-waiting : (s : Script) (origins : List (Option ℕ)) → IsWaiting s.puts origins 0 [] (new_scheduler s)
new-waiting s origins = record {
  capacity = refl;
  next = refl;
  below = λ v h. absurd h;
  puts = λ v h. absurd h;
  few = omega arith;
  apart = none-held;
  from = λ v h. absurd h;
}

new-written : (s : Script) → IsPlain s → (image : List (List ℕ)) (origins : List (Option ℕ)) → IsOrderClosed (zeros (blocks_of s)) s.puts image origins → IsWritten (blocks_of s) origins 0 (opened_for s)
new-written s p image origins c =
    let n = length (zeros (blocks_of s)) in
    let some = p.runnable.some_depth in
    let size : n ≡ blocks_of s = length-replicate (blocks_of s) (filled 0) in
    let none : List (Option ℕ) = replicate n None in
    record {
      idle = record { waiting = refl; next = refl; depth = omega (arith, some); cache = refl; cut = p.cut; fail = p.fail; works = refl };
      size = length-map none (id_at []) ∙ length-replicate n None ∙ size;
      places = length-replicate n None ∙ size;
      taken = λ b place has. absurd (none-some place (In-replicate n None (Some place) (slice_get-In none b (Some place) has)));
      marked = record {
        kept = λ b top has lt. absurd (omega (arith, lt));
        none = λ b has.
            let lt : b < n = subst (λ k. b < k) c.places (slice_get-length origins b None has) in
            slice_get-map_some (id_at []) none b None (slice_get-replicate n b None lt);
      };
    }

-- ---- the end

pub record IsLeftBy (s : Script) (image : List (List ℕ)) (origins : List (Option ℕ)) : Type 0 where
  pub holds : (end_under s (events_to s.puts origins)).dev.surface ≡ image
  pub written : origin_ids (end_under s (events_to s.puts origins)).dev.took (end_under s (events_to s.puts origins)).dev.origins ≡ origins

pub closed-left : (s : Script) → IsPlain s → length s.puts ≤ CAPACITY → (image : List (List ℕ)) (origins : List (Option ℕ)) → IsOrderClosed (zeros (blocks_of s)) s.puts image origins → IsLeftBy s image origins
closed-left s p held image origins c =
    let base = zeros (blocks_of s) in
    let rs = s.puts in
    let m = places_used origins in
    let events = events_to rs origins in
    let front : IsAhead rs origins 0 (take m rs) = record {
      at = λ i x e. let same : 0 + i ≡ i = omega arith in ap (slice_get rs) same ∙ prefix-get (take m rs) rs i x (m, refl) e;
      ends = let most = length-take-le m rs (used-within c) in omega (arith, most);
    } in
    let queue = p.runnable.some_queue in
    let passed = pass c (blocks_of s) p.runnable.requests s.header.queue (omega (arith, queue)) held (take m rs) 0 [] (new_scheduler s) (opened_for s) front (new-waiting s origins) (new-written s p image origins c) (λ more. refl) in
    let marked : IsMarked origins m (origin_ids (run_under s events).dev.took (run_under s events).dev.origins) =
    subst (λ r. IsMarked origins m (origin_ids (run rs r events).dev.took (run rs r events).dev.origins)) (sym (opened-resting s p.scheduled)) passed in
    let reached = reached-closed base rs (run_under s events) (run-reached base rs (opened_run s) events (opened-reached s p)) in
    let ids = origins-are origins (origin_ids (run_under s events).dev.took (run_under s events).dev.origins) (reached.places ∙ sym c.places) marked in
    let same = subst (λ o. IsOrderClosed base rs (run_under s events).dev.surface o) ids reached in
    let end = end-is s events p in
    record {
      holds = ap (λ e. e.dev.surface) end ∙ one-image same c;
      written = ap (λ e. origin_ids e.dev.took e.dev.origins) end ∙ ids;
    }
