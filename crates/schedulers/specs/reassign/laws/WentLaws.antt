-- The command of a request, the element at a place, and what waits.
use Rattle.std.specs.Prelude.{◌≡◌, ℕ, ◌<◌, ◌⊎◌, Bool, true, List, [], ◌∷◌, ◌++◌, length, map, Option, Some, None, IsSomeAnd, slice_get, refl}
use Rattle.std.proofs.Common.{ap, sym, subst, ◌∙◌, inl, inr, ⊎_elim, get_or, false}
use Rattle.std.proofs.lemmas.Bool.{false≢true}
use Rattle.std.proofs.lemmas.Option.{same_Some}
use Rattle.blk_base.specs.Members.{In}
use Rattle.blk_base.specs.laws.Members.{In-map, map-In, slice_get-push_left, slice_get-push_cases, slice_get-length}
use Rattle.order_model.specs.declared.request.Kind.{Kind}
use Rattle.order_model.specs.declared.request.Kind.TheVariants.{Put, Flush}
use Rattle.order_model.specs.declared.request.Request.{Request}
use Rattle.order_model.specs.OrderClosed.{is_flush}
use Rattle.order_model.specs.Received.{ids_of}
use Rattle.schedulers.specs.declared.reassign.closing.Closing.{Closing}
use Rattle.schedulers.specs.declared.reassign.closing.Closing.TheVariants as closings
use Rattle.schedulers.specs.reassign.Epoch.{Waiting, unflagged}
use Rattle.order_model.specs.Single.{command_of_request}
use Rattle.order_model.specs.Carrying.{IsSentIn, IsWaitingAt}
use Rattle.order_model.proofs.Direct.{ids_of-command, carried_alone}
use Rattle.order_model.proofs.OrderToTheMedium.{carried-id}
use Rattle.schedulers.specs.reassign.Sched.{SchedState, seen_of}
use Rattle.schedulers.specs.reassign.laws.Valid.{Went, IsValid}

-- ---- the command of a request

-- two requests with one command have one id
pub command-id : (p q : Request) (f g : Bool) → command_of_request p f ≡ command_of_request q g → p.id ≡ q.id
command-id p q f g e =
    ap (λ ids. get_or ids 0 0) (sym (ids_of-command p f) ∙ ap ids_of e ∙ ids_of-command q g)

pub is_flush-true : (k : Kind) → is_flush k ≡ true → k ≡ Flush
is_flush-true (Put block body) e = absurd (false≢true e)
is_flush-true Flush e = refl

pub true-is_flush : (k : Kind) → k ≡ Flush → is_flush k ≡ true
true-is_flush k e = ap is_flush e

-- what closes the queue is a flush
abbrev pub is_flush_closing : Closing → Bool
is_flush_closing closings.Open = false
is_flush_closing closings.Barrier = false
is_flush_closing closings.Flush = true

-- ---- what holds of the element at a place

pub holds_at : {X : Type 0} (P : X → Type 0) (o : Option X) (x : X) → o ≡ Some x → P x → IsSomeAnd o P
holds_at P o x e p = subst (λ q. IsSomeAnd q P) (sym e) p

pub at_holds : {X : Type 0} (P : X → Type 0) (o : Option X) (x : X) → o ≡ Some x → IsSomeAnd o P → P x
at_holds P o x e h = subst (λ q. IsSomeAnd q P) e h

pub some_holds : {X : Type 0} (P : X → Type 0) (o : Option X) → IsSomeAnd o P → (x : X) × (o ≡ Some x) × P x
some_holds P None h = absurd h
some_holds P (Some x) h = (x, refl, h)

pub holds-length : {X : Type 0} (P : X → Type 0) (xs : List X) (i : ℕ) → IsSomeAnd (slice_get xs i) P → i < length xs
holds-length P xs i h = let e = some_holds P (slice_get xs i) h in slice_get-length xs i e.0 e.1

pub holds-push_left : {X : Type 0} (P : X → Type 0) (xs : List X) (y : X) (i : ℕ) → IsSomeAnd (slice_get xs i) P → IsSomeAnd (slice_get (xs ++ y ∷ []) i) P
holds-push_left P xs y i h =
    subst (λ o. IsSomeAnd o P) (sym (slice_get-push_left xs y i (holds-length P xs i h))) h

pub holds-push_below : {X : Type 0} (P : X → Type 0) (xs : List X) (y : X) (i : ℕ) → i < length xs → IsSomeAnd (slice_get (xs ++ y ∷ []) i) P → IsSomeAnd (slice_get xs i) P
holds-push_below P xs y i lt h = subst (λ o. IsSomeAnd o P) (slice_get-push_left xs y i lt) h

pub holds-push_cases : {X : Type 0} (P : X → Type 0) (xs : List X) (y : X) (i : ℕ) → IsSomeAnd (slice_get (xs ++ y ∷ []) i) P → IsSomeAnd (slice_get xs i) P ⊎ ((i ≡ length xs) × P y)
holds-push_cases P xs y i h =
    let e = some_holds P (slice_get (xs ++ y ∷ []) i) h in
    ⊎_elim
    (λ old. inl (holds_at P (slice_get xs i) e.0 old e.2))
    (λ new. inr (new.0, subst P (sym new.1) e.2))
    (slice_get-push_cases xs y i e.0 e.1)

-- ---- what waits

abbrev waiting_at : ℕ → Request → Waiting
waiting_at n r = record { number = n; request = r }

-- a number is that of one request
pub same_waiting : (s : SchedState) (u w : Waiting) → IsValid s → In u s.queue.waiting → In w s.queue.waiting → u.number ≡ w.number → u ≡ w
same_waiting s u w v h i e =
    let p = v.waiting u h in
    let q = v.waiting w i in
    let r : p.request ≡ q.request = same_Some p.request q.request (sym p.taken ∙ ap (λ n. slice_get s.accepted n) e ∙ q.taken) in
    let f : u.request ≡ w.request = p.same ∙ ap unflagged r ∙ sym q.same in
    ap (λ n. waiting_at n u.request) e ∙ ap (λ r. waiting_at w.number r) f

-- what waits has the place that its number says
pub waiting_place : (s : SchedState) (i : ℕ) → IsValid s → IsWaitingAt (seen_of s) i → (w : Waiting) × In w s.queue.waiting × (w.number ≡ i)
waiting_place s i v h =
    let w = In-map (λ (x : Waiting). x.request.id) s.queue.waiting h.request.id h.waits in
    let p = v.waiting w.0 w.1 in
    (w.0, w.1, v.ids w.0.number i p.request h.request p.taken h.taken (ap (λ (r : Request). r.id) (sym p.same) ∙ w.2))

pub place_waiting : (s : SchedState) (w : Waiting) (i : ℕ) → IsValid s → In w s.queue.waiting → w.number ≡ i → IsWaitingAt (seen_of s) i
place_waiting s w i v h e =
    let p = v.waiting w h in
    record {
      request = p.request;
      taken = ap (λ n. slice_get s.accepted n) (sym e) ∙ p.taken;
      waits = subst (λ id. In id (map (λ (x : Waiting). x.request.id) s.queue.waiting)) (ap (λ (r : Request). r.id) p.same) (map-In (λ (x : Waiting). x.request.id) s.queue.waiting w h);
    }

-- ---- what went

pub went-length : (s : SchedState) (i k : ℕ) → Went s i k → (i < length s.accepted) × (k < length s.sent_out)
went-length s i k g = (
  slice_get-length s.accepted i g.request g.accepted,
  slice_get-length s.sent_out k (command_of_request g.request g.flagged) g.sent,
)

pub went_sent : (s : SchedState) (i k : ℕ) → Went s i k → IsSentIn (seen_of s) i k
went_sent s i k g = record {
  request = g.request;
  taken = g.accepted;
  command = command_of_request g.request g.flagged;
  sent = g.sent;
  carried = carried_alone g.request g.flagged;
}

pub sent_went : (s : SchedState) (i k : ℕ) → IsValid s → IsSentIn (seen_of s) i k → Went s i k
sent_went s i k v h =
    let m = v.made k (slice_get-length s.sent_out k h.command h.sent) in
    let g = m.1 in
    let c : h.command ≡ command_of_request g.request g.flagged = same_Some h.command (command_of_request g.request g.flagged) (sym h.sent ∙ g.sent) in
    let carried : In h.request.id (g.request.id ∷ []) = subst (λ ids. In h.request.id ids) (ap ids_of c ∙ ids_of-command g.request g.flagged) (carried-id h.request.id h.request.kind h.command h.carried) in
    let id : g.request.id ≡ h.request.id = ⊎_elim (λ e. e) (λ n. absurd n) carried in
    let e : m.0 ≡ i = v.ids m.0 i g.request h.request g.accepted h.taken id in
    subst (λ j. Went s j k) e g
