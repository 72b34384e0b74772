-- Requests that are sent in order, each as a command of its own: the commands carry them.
use Rattle.std.proofs.Common.{◌≡◌, ℕ, ◌+◌, ◌<◌, ◌≤◌, ◌||◌, ◌==◌, Bool, true, false, List, [], ◌∷◌, ◌++◌, length, map, count_by, Option, Some, None, is_some, slice_get, refl, sym, ap, ap₂, subst, ◌∙◌, arith, inl, inr, ⊎_elim, IsTrue, IsSomeAnd, if◌then◌else◌}
use Rattle.std.specs.Option.{option_and_then, option_to_list}
use Rattle.std.proofs.lemmas.Bool.{false≢true}
use Rattle.std.proofs.lemmas.List.{length-map}
use Rattle.std.proofs.lemmas.List.Sums.{sum_by-cons}
use Rattle.std.proofs.lemmas.Option.{none-some}
use Rattle.blk_base.specs.Members.{In}
use Rattle.blk_base.specs.laws.Members.{In-slice_get, slice_get-in_range, slice_get-length, slice_get-map_some, map_some-slice_get}
use Rattle.order_model.specs.declared.part.Part.{Part}
use Rattle.order_model.specs.declared.command.Command.{Command}
use Rattle.order_model.specs.declared.command.Priority.TheVariants.{Simple, Ordered}
use Rattle.order_model.specs.declared.request.Kind.{Kind}
use Rattle.order_model.specs.declared.request.Kind.TheVariants.{Put, Flush}
use Rattle.order_model.specs.declared.request.Request.{Request}
use Rattle.order_model.specs.Received.{ids_of, all_ids, IsBarrier}
use Rattle.order_model.specs.OrderClosed.{is_flush, kind_block, IsFence, IsFencedBefore}
use Rattle.order_model.specs.Device.{NoneTwice}
use Rattle.order_model.specs.Single.{parts_for, flush_for, command_of_request, command_for}
use Rattle.order_model.specs.Carrying.{IsCarriedBy, IsSentIn, WasAccepted, Carries, AreAtIds, FlushesAreBarriers, sent_alone}
use Rattle.order_model.proofs.Received.{is-barrier}
use Rattle.order_model.proofs.Single.{part_is, flush_is}
use Rattle.order_model.proofs.OrderToTheMedium.{carried-id}

-- ---- the command of one request

ids_of_kind : (id : ℕ) (k : Kind) → map (λ (p : Part). p.id) (parts_for id k) ++ option_to_list (flush_for id k) ≡ id ∷ []
ids_of_kind id (Put block body) = refl
ids_of_kind id Flush = refl

pub ids_of-command : (r : Request) (flagged : Bool) → ids_of (command_of_request r flagged) ≡ r.id ∷ []
ids_of-command r flagged = ids_of_kind r.id r.kind

carried_kind : (id : ℕ) (k : Kind) (c : Command) → c.parts ≡ parts_for id k → c.flush ≡ flush_for id k → IsCarriedBy id k c
carried_kind id (Put block body) c parts flush = subst (λ ps. In (record { id = id; block = block; body = body }) ps) (sym parts) (inl refl)
carried_kind id Flush c parts flush = flush

pub carried_alone : (r : Request) (flagged : Bool) → IsCarriedBy r.id r.kind (command_of_request r flagged)
carried_alone r flagged = carried_kind r.id r.kind (command_of_request r flagged) refl refl

-- a flush has no part
whole_kind : (id : ℕ) (k : Kind) → is_some (flush_for id k) ≡ (length (parts_for id k) == 0)
whole_kind id (Put block body) = refl
whole_kind id Flush = refl

pub whole_alone : (r : Request) (flagged : Bool) → is_some (command_of_request r flagged).flush ≡ (length (command_of_request r flagged).parts == 0)
whole_alone r flagged = whole_kind r.id r.kind

-- and a put is the one part of its command
few_kind : (id : ℕ) (k : Kind) → length (parts_for id k) ≤ 1
few_kind id (Put block body) = omega arith
few_kind id Flush = omega arith

pub few_alone : (r : Request) (flagged : Bool) → length (command_of_request r flagged).parts ≤ 1
few_alone r flagged = few_kind r.id r.kind

-- a fence has the barrier flag, as a flush does
fence_barrier : (b : Bool) (k : Kind) → (k ≡ Flush → b ≡ true) → (b || is_flush k) ≡ b
fence_barrier true k flush = refl
fence_barrier false (Put block body) flush = refl
fence_barrier false Flush flush = absurd (false≢true (flush refl))

-- ---- all of them

-- what holds of the element at a place
some_and : {X : Type 0} (P : X → Type 0) (o : Option X) → IsSomeAnd o P → (x : X) × (o ≡ Some x) × P x
some_and P None h = absurd h
some_and P (Some x) h = (x, refl, h)

put_at : (block : ℕ) (o : Option Request) → option_and_then (λ (r : Request). kind_block r.kind) o ≡ Some block → (r : Request) × (o ≡ Some r)
put_at block None e = absurd (none-some block e)
put_at block (Some r) e = (r, refl)

-- the request of a command
request_at : (qs : List Request) (k : ℕ) (c : Command) → slice_get (map command_for qs) k ≡ Some c → (q : Request) × (slice_get qs k ≡ Some q) × (command_for q ≡ c)
request_at qs k c at = map_some-slice_get command_for qs k c at

request_in : (qs : List Request) (c : Command) → In c (map command_for qs) → (k : ℕ) × (q : Request) × (slice_get qs k ≡ Some q) × (command_for q ≡ c)
request_in qs c h =
    let at = In-slice_get (map command_for qs) c h in
    let q = request_at qs at.0 c at.2 in
    (at.0, q.0, q.1, q.2)

all_ids-alone : (qs : List Request) → all_ids (map command_for qs) ≡ map (λ (q : Request). q.id) qs
all_ids-alone [] = refl
all_ids-alone (q ∷ qs) = ap₂ (λ a b. a ++ b) (ids_of-command q q.barrier) (all_ids-alone qs)

id_place : (qs : List Request) → AreAtIds qs → (i id : ℕ) → slice_get (all_ids (map command_for qs)) i ≡ Some id → id ≡ i
id_place qs all i id at =
    let q = map_some-slice_get (λ (r : Request). r.id) qs i id (ap (λ l. slice_get l i) (sym (all_ids-alone qs)) ∙ at) in
    sym q.2 ∙ all i q.0 q.1

none_twice : (qs : List Request) → AreAtIds qs → NoneTwice (all_ids (map command_for qs))
none_twice qs all i j id a b = sym (id_place qs all i id a) ∙ id_place qs all j id b

-- the request at place i is sent as command i
sent_at : (qs : List Request) (i : ℕ) (r : Request) → slice_get qs i ≡ Some r → IsSentIn (sent_alone qs) i i
sent_at qs i r at = record {
  request = r;
  taken = at;
  command = command_for r;
  sent = slice_get-map_some command_for qs i r at;
  carried = carried_alone r r.barrier;
}

-- and as no other
sent_there : (qs : List Request) (i k : ℕ) → AreAtIds qs → IsSentIn (sent_alone qs) i k → i ≡ k
sent_there qs i k all h =
    let q = request_at qs k h.command h.sent in
    let ids = ap ids_of (sym q.2) ∙ ids_of-command q.0 q.0.barrier in
    let there : In h.request.id (q.0.id ∷ []) = subst (In h.request.id) ids (carried-id h.request.id h.request.kind h.command h.carried) in
    let same : q.0.id ≡ h.request.id = ⊎_elim (λ e. e) (λ none. absurd none) there in
    sym (all i h.request h.taken) ∙ sym same ∙ all k q.0 q.1

accepted_part : (qs : List Request) (c : Command) (p : Part) → In c (map command_for qs) → In p c.parts → WasAccepted (sent_alone qs) p.id (Put p.block p.body)
accepted_part qs c p h i =
    let q = request_in qs c h in
    let at = In-slice_get c.parts p i in
    let part = part_is q.1.id q.1.kind at.0 p (ap (λ (d : Command). slice_get d.parts at.0) q.3 ∙ at.2) in
    record { place = q.0; request = q.1; taken = q.2; named = sym part.1; same = part.0 }

accepted_flush : (qs : List Request) (c : Command) (id : ℕ) → In c (map command_for qs) → c.flush ≡ Some id → WasAccepted (sent_alone qs) id Flush
accepted_flush qs c id h e =
    let q = request_in qs c h in
    let flush = flush_is q.1.id q.1.kind id (ap (λ (d : Command). d.flush) q.3 ∙ e) in
    record { place = q.0; request = q.1; taken = q.2; named = flush.0; same = flush.1 }

barrier_at : (qs : List Request) (b : ℕ) → FlushesAreBarriers qs → IsFence qs b → IsBarrier (map command_for qs) b
barrier_at qs b flags fence =
    let r = some_and (λ (q : Request). IsTrue (q.barrier || is_flush q.kind)) (slice_get qs b) fence in
    is-barrier (map command_for qs) b (command_for r.0) (slice_get-map_some command_for qs b r.0 r.1)
    (sym (fence_barrier r.0.barrier r.0.kind (flags b r.0 r.1)) ∙ r.2)

ordered : (qs : List Request) (i j l : ℕ) → AreAtIds qs → FlushesAreBarriers qs → IsFencedBefore qs i j → IsSentIn (sent_alone qs) j l
    → (k : ℕ) × (b : ℕ) × IsSentIn (sent_alone qs) i k × (k ≤ b) × (b < l) × IsBarrier (map command_for qs) b
ordered qs i j l all flags before h =
    let r = some_and (λ (q : Request). IsTrue q.ordered) (slice_get qs i) before.ordered in
    let b = before.fence in
    let lt = b.2 in
    let same = sent_there qs j l all h in
    (i, b.0, sent_at qs i r.0 r.1, b.1, omega arith, barrier_at qs b.0 flags b.3)

earlier : (qs : List Request) (i j l : ℕ) (r : Request) → AreAtIds qs → i < j → slice_get qs i ≡ Some r → IsSentIn (sent_alone qs) j l → (k : ℕ) × IsSentIn (sent_alone qs) i k × (k < l)
earlier qs i j l r all lt at h =
    let same = sent_there qs j l all h in
    (i, sent_at qs i r at, omega arith)

in_range : (qs : List Request) (j l : ℕ) → IsSentIn (sent_alone qs) j l → j < length qs
in_range qs j l h = slice_get-length qs j h.request h.taken

count : (qs : List Request) → ((r : Request) → In r qs → r.kind ≡ Flush → r.barrier ≡ true)
    → count_by (λ (c : Command). c.barrier) (map command_for qs) ≡ count_by (λ (r : Request). r.barrier || is_flush r.kind) qs
count [] flags = refl
count (q ∷ qs) flags =
    sum_by-cons (λ (c : Command). if c.barrier then 1 else 0) (command_for q) (map command_for qs)
    ∙ ap₂ (λ (b : Bool) (n : ℕ). (if b then 1 else 0) + n)
    (sym (fence_barrier q.barrier q.kind (flags q (inl refl))))
    (count qs (λ r h. flags r (inr h)))
    ∙ sym (sum_by-cons (λ (r : Request). if r.barrier || is_flush r.kind then 1 else 0) q qs)

flags_in : (qs : List Request) → FlushesAreBarriers qs → (r : Request) → In r qs → r.kind ≡ Flush → r.barrier ≡ true
flags_in qs flags r h = let at = In-slice_get qs r h in flags at.0 r at.2

pub carries_alone : (qs : List Request) → AreAtIds qs → FlushesAreBarriers qs → Carries (sent_alone qs)
carries_alone qs all flags = record {
  few = omega arith;
  somewhere = λ i lt. let r = slice_get-in_range qs i lt in inr (i, sent_at qs i r.0 r.1);
  not_both = λ i k w h. absurd w.waits;
  once = none_twice qs all;
  counted = let n = ap length (all_ids-alone qs) ∙ length-map qs (λ (q : Request). q.id) in omega arith;
  parts = accepted_part qs;
  flushes = accepted_flush qs;
  whole = λ c h. let q = request_in qs c h in subst (λ (d : Command). is_some d.flush ≡ (length d.parts == 0)) q.3 (whole_alone q.1 q.1.barrier);
  ordered = λ i j l before h. ordered qs i j l all flags before h;
  blocks = λ i j l block lt p q h. let r = put_at block (slice_get qs i) p in earlier qs i j l r.0 all lt r.1 h;
  before_flush = λ i f l lt flush h. let near = in_range qs f l h in let r = slice_get-in_range qs i (omega arith) in earlier qs i f l r.0 all lt r.1 h;
  after_flush = λ f j l lt flush h. let r = some_and (λ (q : Request). q.kind ≡ Flush) (slice_get qs f) flush in earlier qs f j l r.0 all lt r.1 h;
  priority = λ c h. let q = request_in qs c h in subst (λ (d : Command). d.priority ≡ (if d.barrier then Ordered else Simple)) q.3 refl;
  flush_flag = λ c id h e.
      let q = request_in qs c h in
      let flush = flush_is q.1.id q.1.kind id (ap (λ (d : Command). d.flush) q.3 ∙ e) in
      sym (ap (λ (d : Command). d.barrier) q.3) ∙ flags q.0 q.1 q.2 flush.1;
  count = let n = count qs (flags_in qs flags) in omega arith;
  small = λ c h.
      let q = request_in qs c h in
      let one = few_alone q.1 q.1.barrier in
      subst (λ (d : Command). length d.parts ≤ 16) q.3 (omega (arith, one));
}
