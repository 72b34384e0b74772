-- What is on the medium where the commands that a device took carry what was submitted.
use Rattle.std.proofs.Common.{◌≡◌, ℕ, ◌+◌, ◌<◌, ◌≤◌, ◌||◌, List, length, take, Some, slice_get, refl, sym, ap, subst, ◌∙◌, arith, inl, inr, ⊎_elim, IsTrue, IsSomeAnd}
use Rattle.std.specs.Option.{option_and_then}
use Rattle.std.proofs.lemmas.Bool.{cases_lt}
use Rattle.std.proofs.lemmas.List.{length-map}
use Rattle.std.proofs.lemmas.Option.{none-some, same_Some}
use Rattle.blk_base.specs.Members.{In}
use Rattle.blk_base.specs.laws.Members.{In-slice_get, slice_get-In, slice_get-in_range, slice_get-length, slice_get-take, slice_get-take_out}
use Rattle.order_model.specs.declared.part.Part.{Part}
use Rattle.order_model.specs.declared.command.Command.{Command}
use Rattle.order_model.specs.declared.request.Kind.{Kind}
use Rattle.order_model.specs.declared.request.Kind.TheVariants.{Put, Flush}
use Rattle.order_model.specs.declared.request.Request.{Request}
use Rattle.order_model.specs.Received.{all_parts, part_at, first_part, command_of_part, ids_of, IsBarrier, IsFlush}
use Rattle.order_model.specs.OrderClosed.{is_flush, kind_block, kind_body, IsPutOf, IsPut, IsPutWith, IsFlushAt, IsFencedBefore, IsOrderedBefore, HasOrigin, IsKept, IsOrderClosed, KeepsFlushed}
use Rattle.order_model.specs.Device.{Seen, completed, origin_ids, IsPartKept, IsSurface, KeepsEpochOrder, KeepsFlush, Completes}
use Rattle.order_model.specs.Carrying.{SchedSeen, IsCarriedBy, IsSentIn, Carries, AreAtIds, IsPrefixOf, Fits}
use Rattle.order_model.proofs.Received.{place_of, part_at-place, command_of_part-first, command_of_part-lt, part_at-first, part-lt, command_of_part-mono, is-barrier, flush-is, id_once, In-part-id, In-flush-id}
use Rattle.order_model.proofs.OriginIds.{id_at, placed, origin_of, no_origin}

-- ---- prefixes

pub prefix-get : {X : Type 0} (xs ys : List X) (i : ℕ) (x : X) → IsPrefixOf xs ys → slice_get xs i ≡ Some x → slice_get ys i ≡ Some x
prefix-get xs ys i x front at =
    let cut : slice_get (take front.0 ys) i ≡ Some x = ap (λ l. slice_get l i) (sym front.1) ∙ at in
    ⊎_elim
    (λ lt. sym (slice_get-take front.0 ys i lt) ∙ cut)
    (λ le. absurd (none-some x (sym (slice_get-take_out front.0 ys i le) ∙ cut)))
    (cases_lt i front.0)

prefix-same : {X : Type 0} (xs ys : List X) (i : ℕ) → IsPrefixOf xs ys → i < length xs → slice_get ys i ≡ slice_get xs i
prefix-same xs ys i front lt =
    let x = slice_get-in_range xs i lt in
    prefix-get xs ys i x.0 front x.1 ∙ sym x.1

-- ---- what was sent

-- what a command carries is one of its ids
pub carried-id : (id : ℕ) (k : Kind) (c : Command) → IsCarriedBy id k c → In id (ids_of c)
carried-id id (Put block body) c h = In-part-id c (record { id = id; block = block; body = body }) h
carried-id id Flush c h = In-flush-id c id h

-- a put is carried as a part of its block
carried_part : (id block : ℕ) (k : Kind) (c : Command) → kind_block k ≡ Some block → IsCarriedBy id k c → (p : Part) × In p c.parts × (p.id ≡ id) × (p.block ≡ block)
carried_part id block (Put b body) c e h = (record { id = id; block = b; body = body }, h, refl, same_Some b block e)
carried_part id block Flush c e h = absurd (none-some block e)

-- a request is sent in one command
pub sent_once : (s : SchedSeen) (i k l : ℕ) → Carries s → IsSentIn s i k → IsSentIn s i l → k ≡ l
sent_once s i k l v g h =
    let same : h.request ≡ g.request = same_Some h.request g.request (sym h.taken ∙ g.taken) in
    let other : In g.request.id (ids_of h.command) = subst (λ (r : Request). In r.id (ids_of h.command)) same (carried-id h.request.id h.request.kind h.command h.carried) in
    id_once s.sent_out k l g.command h.command g.request.id v.once g.sent h.sent (carried-id g.request.id g.request.kind g.command g.carried) other

-- what was sent was accepted
sent-accepted : (s : SchedSeen) (i k : ℕ) → IsSentIn s i k → i < length s.accepted
sent-accepted s i k h = slice_get-length s.accepted i h.request h.taken

-- ---- the state of both

-- scheduler and device fit what was submitted, and keep what the lemmas below need of their laws
pub record IsRun (qs : List Request) (s : SchedSeen) (d : Seen) : Type 0 where
  pub ids : AreAtIds qs
  pub fits : Fits qs s d
  pub carries : Carries s
  pub surface : IsSurface d

-- ---- parts and requests

-- the put that a part of the device carries
record IsRequestOf (qs : List Request) (s : SchedSeen) (d : Seen) (x : ℕ) (p : Part) : Type 0 where
  pub sent : IsSentIn s p.id (command_of_part d.took x)
  pub submitted : slice_get qs p.id ≡ Some sent.request
  pub put : sent.request.kind ≡ Put p.block p.body
  pub taken : command_of_part d.took x < length d.took

carried_put : (r : Request) (p : Part) (c : Command) → r.id ≡ p.id → r.kind ≡ Put p.block p.body → In p c.parts → IsCarriedBy r.id r.kind c
carried_put r p c named same h =
    subst (λ k. IsCarriedBy r.id k c) (sym same) (subst (λ i. IsCarriedBy i (Put p.block p.body) c) (sym named) h)

request_of : (qs : List Request) (s : SchedSeen) (d : Seen) (x : ℕ) (p : Part) → IsRun qs s d → part_at d.took x ≡ Some p → IsRequestOf qs s d x p
request_of qs s d x p run at =
    let lt = slice_get-length (all_parts d.took) x p at in
    let k = command_of_part d.took x in
    let place = place_of d.took x lt in
    let c = place.command in
    let sent = prefix-get d.took s.sent_out k c run.fits.took place.taken in
    let inside = slice_get-In c.parts place.inside p (sym (part_at-place d.took x place) ∙ at) in
    let a = run.carries.parts c p (slice_get-In s.sent_out k c sent) inside in
    let submitted = prefix-get s.accepted qs a.place a.request run.fits.accepted a.taken in
    let named : a.place ≡ p.id = sym (run.ids a.place a.request submitted) ∙ a.named in
    record {
      sent = record {
        request = a.request;
        taken = ap (slice_get s.accepted) (sym named) ∙ a.taken;
        command = c;
        sent = sent;
        carried = carried_put a.request p c a.named a.same inside;
      };
      submitted = ap (slice_get qs) (sym named) ∙ submitted;
      put = a.same;
      taken = command_of_part-lt d.took x lt;
    }

-- the put of a part, as it was submitted and as it was accepted
submitted_put : (qs : List Request) (s : SchedSeen) (d : Seen) (x : ℕ) (p : Part) → IsRequestOf qs s d x p → IsPutOf qs p.id p.block
submitted_put qs s d x p r = ap (option_and_then (λ (q : Request). kind_block q.kind)) r.submitted ∙ ap kind_block r.put

submitted_body : (qs : List Request) (s : SchedSeen) (d : Seen) (x : ℕ) (p : Part) → IsRequestOf qs s d x p → IsPutWith qs p.id p.body
submitted_body qs s d x p r = ap (option_and_then (λ (q : Request). kind_body q.kind)) r.submitted ∙ ap kind_body r.put

accepted_part : (qs : List Request) (s : SchedSeen) (d : Seen) (x : ℕ) (p : Part) → IsRequestOf qs s d x p → IsPutOf s.accepted p.id p.block
accepted_part qs s d x p r = ap (option_and_then (λ (q : Request). kind_block q.kind)) r.sent.taken ∙ ap kind_block r.put

-- a put that was submitted and accepted
accepted_put : (qs : List Request) (s : SchedSeen) (d : Seen) (i block : ℕ) → IsRun qs s d → i < length s.accepted → IsPutOf qs i block → IsPutOf s.accepted i block
accepted_put qs s d i block run lt put =
    ap (option_and_then (λ (r : Request). kind_block r.kind)) (sym (prefix-same s.accepted qs i run.fits.accepted lt)) ∙ put

-- the part of a put that the device took
pub record IsPartFor (took : List Command) (i k block : ℕ) : Type 0 where
  pub place : ℕ
  pub part : Part
  pub there : part_at took place ≡ Some part
  pub named : part.id ≡ i
  pub same : part.block ≡ block
  pub command : command_of_part took place ≡ k
  pub within : place < length (all_parts took)

pub part_for : (qs : List Request) (s : SchedSeen) (d : Seen) (i k block : ℕ) → IsRun qs s d → IsPutOf qs i block → IsSentIn s i k → k < length d.took → IsPartFor d.took i k block
part_for qs s d i k block run put h lt =
    let took = d.took in
    let c = h.command in
    let taken : slice_get took k ≡ Some c = sym (prefix-same took s.sent_out k run.fits.took lt) ∙ h.sent in
    let submitted = prefix-get s.accepted qs i h.request run.fits.accepted h.taken in
    let named = run.ids i h.request submitted in
    let p = carried_part h.request.id block h.request.kind c (ap (option_and_then (λ (r : Request). kind_block r.kind)) (sym submitted) ∙ put) h.carried in
    let n = In-slice_get c.parts p.0 p.1 in
    record {
      place = first_part took k + n.0;
      part = p.0;
      there = part_at-first took k c n.0 taken n.1 ∙ n.2;
      named = p.2 ∙ named;
      same = p.3;
      command = command_of_part-first took k c n.0 taken n.1;
      within = part-lt took k c n.0 taken n.1;
    }

-- the part that a block's origin names, with the body that the block holds
record IsWritten (qs : List Request) (s : SchedSeen) (d : Seen) (block id : ℕ) : Type 0 where
  pub place : ℕ
  pub held : slice_get d.origins block ≡ Some (Some place)
  pub part : Part
  pub there : part_at d.took place ≡ Some part
  pub named : part.id ≡ id
  pub same : part.block ≡ block
  pub holds : slice_get d.surface block ≡ Some part.body
  pub request : IsRequestOf qs s d place part

written : (qs : List Request) (s : SchedSeen) (d : Seen) (block id : ℕ) → IsRun qs s d → HasOrigin (origin_ids d.took d.origins) block id → IsWritten qs s d block id
written qs s d block id run has =
    let o = placed d.took d.origins block id has in
    let w = run.surface.written block o.place o.held in
    record {
      place = o.place;
      held = o.held;
      part = w.0;
      there = w.1;
      named = ap (λ (p : Part). p.id) (same_Some w.0 o.part (sym w.1 ∙ o.there)) ∙ o.named;
      same = w.2;
      holds = w.3;
      request = request_of qs s d o.place w.0 run w.1;
    }

-- ---- what is kept, by id and by place

-- no later put stands before an earlier one of its block
no_later_before : (qs : List Request) (s : SchedSeen) (d : Seen) (x y : ℕ) (p q : Part) → IsRun qs s d → IsRequestOf qs s d x p → IsRequestOf qs s d y q → q.block ≡ p.block → x ≤ y → p.id ≤ q.id
no_later_before qs s d x y p q run r t same le =
    ⊎_elim
    (λ less.
    let earlier = subst (λ b. IsPutOf s.accepted q.id b) same (accepted_part qs s d y q t) in
    let before = run.carries.blocks q.id p.id (command_of_part d.took x) p.block less earlier (accepted_part qs s d x p r) r.sent in
    let once = sent_once s q.id before.0 (command_of_part d.took y) run.carries before.1 t.sent in
    let mono = command_of_part-mono d.took x y le in
    let lt = before.2 in
    absurd (omega arith))
    (λ le. le)
    (cases_lt q.id p.id)

-- a kept part is a kept put
pub kept_put : (qs : List Request) (s : SchedSeen) (d : Seen) (i x : ℕ) (p : Part) → IsRun qs s d → part_at d.took x ≡ Some p → p.id ≡ i → IsPartKept d x → IsKept qs (origin_ids d.took d.origins) i
kept_put qs s d i x p run at named kept =
    let r = request_of qs s d x p run at in
    let same : kept.part.block ≡ p.block = ap (λ (q : Part). q.block) (same_Some kept.part p (sym kept.taken ∙ at)) in
    let held : slice_get d.origins p.block ≡ Some (Some kept.origin) = ap (slice_get d.origins) (sym same) ∙ kept.held in
    let w = run.surface.written p.block kept.origin held in
    let t = request_of qs s d kept.origin w.0 run w.1 in
    let later = no_later_before qs s d x kept.origin p w.0 run r t w.2 kept.later in
    record {
      block = p.block;
      put = subst (λ j. IsPutOf qs j p.block) named (submitted_put qs s d x p r);
      origin = w.0.id;
      held = origin_of d.took d.origins p.block kept.origin w.0 held w.1;
      later = subst (λ j. j ≤ w.0.id) named later;
    }

-- the part of a put is kept
record IsTakenKept (s : SchedSeen) (d : Seen) (i : ℕ) : Type 0 where
  pub place : ℕ
  pub part : Part
  pub there : part_at d.took place ≡ Some part
  pub named : part.id ≡ i
  pub kept : IsPartKept d place

-- a put that was sent before the command of its block's origin
kept_before : (qs : List Request) (s : SchedSeen) (d : Seen) (i k block id : ℕ) → IsRun qs s d → IsPutOf qs i block → IsSentIn s i k
    → (w : IsWritten qs s d block id) → k < command_of_part d.took w.place → IsTakenKept s d i
kept_before qs s d i k block id run put h w lt =
    let within = w.request.taken in
    let p = part_for qs s d i k block run put h (omega arith) in
    record {
      place = p.place;
      part = p.part;
      there = p.there;
      named = p.named;
      kept = record {
        part = p.part;
        taken = p.there;
        origin = w.place;
        held = ap (slice_get d.origins) p.same ∙ w.held;
        later =
            ⊎_elim
            (λ less. let mono = command_of_part-mono d.took w.place p.place (omega arith) in let command = p.command in absurd (omega arith))
            (λ le. le)
            (cases_lt w.place p.place);
      };
    }

-- a kept put has a kept part
kept_part : (qs : List Request) (s : SchedSeen) (d : Seen) (i : ℕ) → IsRun qs s d → IsKept qs (origin_ids d.took d.origins) i → IsTakenKept s d i
kept_part qs s d i run kept =
    let block = kept.block in
    let w = written qs s d block kept.origin run kept.held in
    let o = w.part.id in
    let l = command_of_part d.took w.place in
    let named = w.named in
    let later = kept.later in
    let in_range = sent-accepted s o l w.request.sent in
    ⊎_elim
    (λ lt.
    let first = accepted_put qs s d i block run (omega arith) kept.put in
    let second = subst (λ b. IsPutOf s.accepted o b) w.same (accepted_part qs s d w.place w.part w.request) in
    let h = run.carries.blocks i o l block lt first second w.request.sent in
    kept_before qs s d i h.0 block kept.origin run kept.put h.1 w h.2)
    (λ ge.
    let same : o ≡ i = omega arith in
    record {
      place = w.place;
      part = w.part;
      there = w.there;
      named = same;
      kept = record { part = w.part; taken = w.there; origin = w.place; held = ap (slice_get d.origins) w.same ∙ w.held; later = omega arith };
    })
    (cases_lt i o)

-- ---- the law

-- what is fenced off or flushed before a request that was accepted is so among what was accepted
accepted_fenced : (qs : List Request) (s : SchedSeen) (d : Seen) (i j : ℕ) → IsRun qs s d → j < length s.accepted → IsFencedBefore qs i j → IsFencedBefore s.accepted i j
accepted_fenced qs s d i j run lt before =
    let b = before.fence.0 in
    let le = before.fence.1 in
    let less = before.fence.2 in
    record {
      first = (before.first.0, accepted_put qs s d i before.first.0 run (omega arith) before.first.1);
      ordered = subst (λ o. IsSomeAnd o (λ (r : Request). IsTrue r.ordered)) (prefix-same s.accepted qs i run.fits.accepted (omega arith)) before.ordered;
      second = (before.second.0, accepted_put qs s d j before.second.0 run lt before.second.1);
      fence = (b, le, less, subst (λ o. IsSomeAnd o (λ (r : Request). IsTrue (r.barrier || is_flush r.kind))) (prefix-same s.accepted qs b run.fits.accepted (omega arith)) before.fence.3);
    }

accepted_flush : (qs : List Request) (s : SchedSeen) (d : Seen) (f : ℕ) → IsRun qs s d → f < length s.accepted → IsFlushAt qs f → IsFlushAt s.accepted f
accepted_flush qs s d f run lt flush =
    subst (λ o. IsSomeAnd o (λ (r : Request). r.kind ≡ Flush)) (prefix-same s.accepted qs f run.fits.accepted lt) flush

-- a flush was sent as a barrier command
flush_barrier : (s : SchedSeen) (f k : ℕ) → Carries s → IsFlushAt s.accepted f → IsSentIn s f k → IsBarrier s.sent_out k
flush_barrier s f k v flush h =
    let kind : h.request.kind ≡ Flush = subst (λ o. IsSomeAnd o (λ (r : Request). r.kind ≡ Flush)) h.taken flush in
    let id = subst (λ t. IsCarriedBy h.request.id t h.command) kind h.carried in
    is-barrier s.sent_out k h.command h.sent (v.flush_flag h.command h.request.id (slice_get-In s.sent_out k h.command h.sent) id)

-- What is ordered before a request that was sent was sent, and a barrier command stands at or after its command and before that of
-- the other: where a flush stands between, it is that of the flush.
sent_before : (qs : List Request) (s : SchedSeen) (d : Seen) (i j l : ℕ) → IsRun qs s d → IsOrderedBefore qs i j → IsSentIn s j l
    → (k : ℕ) × (b : ℕ) × IsSentIn s i k × (k ≤ b) × (b < l) × IsBarrier s.sent_out b
sent_before qs s d i j l run (inl before) h =
    run.carries.ordered i j l (accepted_fenced qs s d i j run (sent-accepted s j l h) before) h
sent_before qs s d i j l run (inr before) h =
    let f = before.flush.0 in
    let less = before.flush.2 in
    let near = sent-accepted s j l h in
    let flush = accepted_flush qs s d f run (omega arith) before.flush.3 in
    let g = run.carries.after_flush f j l less flush h in
    let e = run.carries.before_flush i f g.0 before.flush.1 flush g.1 in
    let lt = e.2 in
    (e.0, g.0, e.1, omega arith, g.2, flush_barrier s f g.0 run.carries flush g.1)

first_put : (qs : List Request) (i j : ℕ) → IsOrderedBefore qs i j → IsPut qs i
first_put qs i j (inl before) = before.first
first_put qs i j (inr before) = before.first

-- a barrier command that was taken
taken_barrier : (qs : List Request) (s : SchedSeen) (d : Seen) (b : ℕ) → IsRun qs s d → b < length d.took → IsBarrier s.sent_out b → IsBarrier d.took b
taken_barrier qs s d b run lt barrier =
    subst (λ o. IsSomeAnd o (λ (c : Command). IsTrue c.barrier)) (prefix-same d.took s.sent_out b run.fits.took lt) barrier

-- with a put that is kept, each put that is ordered before it is kept
closed : (qs : List Request) (s : SchedSeen) (d : Seen) (i j : ℕ) → IsRun qs s d → KeepsEpochOrder d
    → IsOrderedBefore qs i j → IsKept qs (origin_ids d.took d.origins) j → IsKept qs (origin_ids d.took d.origins) i
closed qs s d i j run epochs before kept =
    let y = kept_part qs s d j run kept in
    let r = request_of qs s d y.place y.part run y.there in
    let l = command_of_part d.took y.place in
    let sent : IsSentIn s j l = subst (λ n. IsSentIn s n l) y.named r.sent in
    let o = sent_before qs s d i j l run before sent in
    let put = first_put qs i j before in
    let b = o.1 in
    let le = o.3 in
    let less = o.4 in
    let within = r.taken in
    let x = part_for qs s d i o.0 put.0 run put.1 o.2 (omega arith) in
    kept_put qs s d i x.place x.part run x.there x.named
    (epochs.epochs x.place y.place b x.within
    (taken_barrier qs s d b run (omega arith) o.5)
    (let command = x.command in omega arith)
    less
    y.kept)

pub order_closed : (qs : List Request) (s : SchedSeen) (d : Seen) → IsRun qs s d → KeepsEpochOrder d → IsOrderClosed d.base qs d.surface (origin_ids d.took d.origins)
order_closed qs s d run epochs = record {
  blocks = run.surface.blocks;
  places = length-map d.origins (id_at d.took) ∙ run.surface.places;
  block_of = λ block id has.
      let w = written qs s d block id run has in
      let put = submitted_put qs s d w.place w.part w.request in
      ap (λ i. option_and_then (λ (r : Request). kind_block r.kind) (slice_get qs i)) (sym w.named) ∙ put ∙ ap Some w.same;
  body_of = λ block id body has at.
      let w = written qs s d block id run has in
      let put = submitted_body qs s d w.place w.part w.request in
      ap (λ i. option_and_then (λ (r : Request). kind_body r.kind) (slice_get qs i)) (sym w.named) ∙ put ∙ sym w.holds ∙ at;
  base_of = λ block none.
      run.surface.untouched block
      (no_origin d.took d.origins block (λ x held. let w = run.surface.written block x held in (w.0, w.1)) none);
  closed = λ i j before kept. closed qs s d i j run epochs before kept;
}

-- a flush that was taken was sent under its id
flush_sent : (qs : List Request) (s : SchedSeen) (d : Seen) (k flush : ℕ) → IsRun qs s d → IsFlush d.took k flush → IsFlushAt s.accepted flush × IsSentIn s flush k
flush_sent qs s d k flush run h =
    let c = flush-is d.took k flush h in
    let sent = prefix-get d.took s.sent_out k c.0 run.fits.took c.1 in
    let a = run.carries.flushes c.0 flush (slice_get-In s.sent_out k c.0 sent) c.2 in
    let submitted = prefix-get s.accepted qs a.place a.request run.fits.accepted a.taken in
    let named : a.place ≡ flush = sym (run.ids a.place a.request submitted) ∙ a.named in
    let taken : slice_get s.accepted flush ≡ Some a.request = ap (slice_get s.accepted) (sym named) ∙ a.taken in (
      subst (λ o. IsSomeAnd o (λ (q : Request). q.kind ≡ Flush)) (sym taken) a.same,
      record {
        request = a.request;
        taken = taken;
        command = c.0;
        sent = sent;
        carried = subst (λ k. IsCarriedBy a.request.id k c.0) (sym a.same) (c.2 ∙ ap Some (sym a.named));
      },
    )

-- where a flush completed, each put before it is kept
pub keeps_flushed : (qs : List Request) (s : SchedSeen) (d : Seen) → IsRun qs s d → KeepsFlush d → Completes d → KeepsFlushed qs (origin_ids d.took d.origins) (completed d)
keeps_flushed qs s d run law completes flush i told lt put =
    let f = completes.flushed flush told in
    let g = flush_sent qs s d f.0 flush run f.1 in
    let h = run.carries.before_flush i flush f.0 lt g.0 g.1 in
    let c = flush-is d.took f.0 flush f.1 in
    let end = slice_get-length d.took f.0 c.0 c.1 in
    let earlier = h.2 in
    let p = part_for qs s d i h.0 put.0 run put.1 h.1 (omega arith) in
    kept_put qs s d i p.place p.part run p.there p.named
    (law f.0 flush p.place told f.1 p.within (let command = p.command in omega arith))
