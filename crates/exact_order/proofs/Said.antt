-- The events that leave a medium are few, and such as a text can say.
use Rattle.std.proofs.Common.{◌≡◌, ℕ, ◌+◌, ◌*◌, ◌<◌, ◌≤◌, ◌==◌, true, List, [], ◌∷◌, length, take, Option, refl, sym, subst, inl, inr, arith}
use Rattle.std.specs.List.{list_any}
use Rattle.std.proofs.lemmas.Bool.{cases_Bool}
use Rattle.std.proofs.lemmas.List.{length-take-le}
use Rattle.blk_base.specs.Image.{zeros}
use Rattle.blk_base.specs.Members.{In}
use Rattle.order_model.specs.declared.request.Kind.{Kind}
use Rattle.order_model.specs.declared.request.Kind.TheVariants.{Put, Flush}
use Rattle.order_model.specs.declared.request.Request.{Request}
use Rattle.order_model.specs.OrderClosed.{IsOrderClosed}
use Rattle.schedulers.specs.declared.reassign.scheduler.TheConstants.{CAPACITY}
use Rattle.script_words.specs.declared.limits.TheConstants.{MOST_EVENTS, MOST_REPEATS, PLACES}
use Rattle.script_grammar.specs.declared.script.Script.{Script}
use Rattle.script_grammar.specs.declared.script.EventLine.{EventLine}
use Rattle.script_grammar.specs.declared.script.CoreEvent.{CoreEvent}
use Rattle.script_grammar.specs.declared.script.CoreEvent.TheVariants.{Submit, Accept, Dispatch, Receive, Transfer, Persist}
use Rattle.script_grammar.specs.Grammar.{blocks_of}
use Rattle.script_grammar.specs.WellFormed.{IsEventOf, IsEventLineOf, expanded_of}
use Rattle.exact_order.specs.Left.{AreEvents, IsPlain}
use Rattle.exact_order.specs.Events.{is_wanted, with_block, once, sent_through, left_waiting, events_for, places_used, events_to}
use Rattle.exact_order.proofs.Kept.{used-within}

abbrev AreLines : List EventLine → Type 0
AreLines events = (l : EventLine) → In l events → IsEventLineOf true l

one-more : (e : CoreEvent) (events : List EventLine) → IsEventOf true e → AreLines events → AreLines (once e ∷ events)
one-more e events is all l (inl same) =
    let most : MOST_REPEATS ≡ 1000000 = refl in
    subst (IsEventLineOf true) same (record { event = is; some = omega arith; most = omega (arith, most) })
one-more e events is all l (inr h) = all l h

first-place : 0 < PLACES
first-place = let most : PLACES ≡ 4294967296 = refl in omega (arith, most)

sent-lines : (held : List ℕ) (events : List EventLine) → length held < PLACES → AreLines events → AreLines (sent_through held events)
sent-lines held events lt all =
    let persisted = once (Persist 0) ∷ events in
    let transferred = once (Transfer 0) ∷ persisted in
    let received = once Receive ∷ transferred in
    let dispatched = once (Dispatch (length held)) ∷ received in
    let accepted = once Accept ∷ dispatched in
    one-more Submit accepted refl
    (one-more Accept dispatched refl
    (one-more (Dispatch (length held)) received (refl, lt)
    (one-more Receive transferred tt
    (one-more (Transfer 0) persisted first-place
    (one-more (Persist 0) events first-place all)))))

waiting-lines : (events : List EventLine) → AreLines events → AreLines (left_waiting events)
waiting-lines events all = one-more Submit (once Accept ∷ events) refl (one-more Accept events refl all)

-- one block more at most
held-size : (held : List ℕ) (k : Kind) → length (with_block held k) ≤ length held + 1
held-size held (Put block body) =
    elim (cases_Bool (list_any (λ b. b == block) held)) [
      | inl t ↦ rw t (omega arith)
      | inr f ↦ rw f (omega arith)
    ]
held-size held Flush = omega arith

lines-said : (origins : List (Option ℕ)) (rest : List Request) (held : List ℕ) → length held + length rest ≤ CAPACITY → AreLines (events_for origins held rest)
lines-said origins [] held few = λ l h. absurd h
lines-said origins (p ∷ ps) held few =
    let room : CAPACITY ≡ 128 = refl in
    let most : PLACES ≡ 4294967296 = refl in
    elim (cases_Bool (is_wanted origins p.id p.kind)) [
      | inl t ↦ rw t (sent-lines held (events_for origins held ps) (omega (arith, few, room, most)) (lines-said origins ps held (omega (arith, few))))
      | inr f ↦
          let size = held-size held p.kind in
          rw f (waiting-lines (events_for origins (with_block held p.kind) ps) (lines-said origins ps (with_block held p.kind) (omega (arith, few, size))))
    ]

-- six a request at most
events-few : (origins : List (Option ℕ)) (rest : List Request) (held : List ℕ) → expanded_of (events_for origins held rest) ≤ 6 * length rest
events-few origins [] held = omega arith
events-few origins (p ∷ ps) held =
    elim (cases_Bool (is_wanted origins p.id p.kind)) [
      | inl t ↦ let few = events-few origins ps held in rw t (omega (arith, few))
      | inr f ↦ let few = events-few origins ps (with_block held p.kind) in rw f (omega (arith, few))
    ]

pub events-said : (s : Script) → IsPlain s → length s.puts ≤ CAPACITY → (image : List (List ℕ)) (origins : List (Option ℕ)) → IsOrderClosed (zeros (blocks_of s)) s.puts image origins → AreEvents s (events_to s.puts origins)
events-said s p held image origins c =
    let m = places_used origins in
    let most = used-within c in
    let size = length-take-le m s.puts most in
    let few = events-few origins (take m s.puts) [] in
    let room : CAPACITY ≡ 128 = refl in
    let limit : MOST_EVENTS ≡ 20000000 = refl in
    let none : length {A = ℕ} [] ≡ 0 = refl in
    record {
      lines = subst (λ b. (l : EventLine) → In l (events_to s.puts origins) → IsEventLineOf b l) (sym p.scheduled) (lines-said origins (take m s.puts) [] (omega (arith, size, most, held, none)));
      expanded = omega (arith, few, size, most, held, room, limit);
    }
