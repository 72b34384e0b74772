-- Which requests may leave, in words of the requests that wait: what the rule of the queue means.
use Rattle.std.specs.Prelude.{◌≡◌, ℕ, ◌<◌, ◌≤◌, ◌==◌, ◌||◌, ◌&&◌, ◌⊎◌, ◌↔◌, not, true, false, List, [], ◌∷◌, length, nat_lt, Some, IsTrue, slice_get, refl}
use Rattle.std.specs.Option.{option_and_then}
use Rattle.std.proofs.Common.{ap, sym, subst, ◌∙◌, inl, inr, ⊎_elim, arith}
use Rattle.std.proofs.lemmas.Bool.{cases_Bool, cases_eq, both_ways, false≢true, and_parts, and_from, or_left, or_right, not-true, lt-ltb, ltb-true, eq-eqb, eqb-true}
use Rattle.std.proofs.lemmas.Option.{none-some, same_Some}
use Rattle.blk_base.specs.Members.{In, IsAscending}
use Rattle.blk_base.specs.laws.Members.{list_any-none, slice_get-length, list_all-In}
use Rattle.order_model.specs.declared.request.Kind.{Kind}
use Rattle.order_model.specs.declared.request.Kind.TheVariants.{Put, Flush}
use Rattle.order_model.specs.declared.request.Request.{Request}
use Rattle.order_model.specs.OrderClosed.{is_flush, kind_block, IsPut, IsPutOf, IsOrdered, IsFence, IsFlushAt}
use Rattle.order_model.specs.Carrying.{SchedSeen, IsWaitingAt}
use Rattle.schedulers.specs.declared.reassign.closing.Closing.{Closing}
use Rattle.schedulers.specs.declared.reassign.closing.Closing.TheVariants as closings
use Rattle.schedulers.specs.reassign.Epoch.{Waiting, is_open, is_blocked, is_barrier_closing, have_one_block, stands_before, may_leave, without, waits_ordered, leaves_flagged}
use Rattle.schedulers.specs.reassign.Sched.{SchedState, seen_of}
use Rattle.schedulers.specs.reassign.MayLeave.{MayLeave, LeavesAsBarrier, HasNotLeft}
use Rattle.schedulers.specs.reassign.laws.Valid.{IsFrom, IsValid}
use Rattle.schedulers.specs.reassign.laws.WentLaws.{is_flush-true, true-is_flush, holds_at, at_holds, holds-length, waiting_place, place_waiting}
use Rattle.schedulers.specs.reassign.laws.DispatchedLaws.{only_one, flag_cases, flagged_last, stays, stayed, put_first}

-- ---- a request that waits, and that which was accepted at its place

same_kind : (s : SchedState) (w : Waiting) (f : IsFrom s.accepted w) → f.request.kind ≡ w.request.kind
same_kind s w f = ap (λ (q : Request). q.kind) (sym f.same)

pub put_at : (s : SchedState) (w : Waiting) (block : ℕ) → IsFrom s.accepted w → kind_block w.request.kind ≡ Some block → IsPutOf s.accepted w.number block
put_at s w block f put =
    ap (option_and_then (λ (q : Request). kind_block q.kind)) f.taken ∙ ap kind_block (same_kind s w f) ∙ put

pub at_put : (s : SchedState) (w : Waiting) (block : ℕ) → IsFrom s.accepted w → IsPutOf s.accepted w.number block → kind_block w.request.kind ≡ Some block
at_put s w block f put =
    sym (ap kind_block (same_kind s w f)) ∙ sym (ap (option_and_then (λ (q : Request). kind_block q.kind)) f.taken) ∙ put

flush_at : (s : SchedState) (w : Waiting) → IsFrom s.accepted w → is_flush w.request.kind ≡ true → IsFlushAt s.accepted w.number
flush_at s w f flush =
    holds_at (λ (q : Request). q.kind ≡ Flush) (slice_get s.accepted w.number) f.request f.taken
    (is_flush-true f.request.kind (ap is_flush (same_kind s w f) ∙ flush))

at_flush : (s : SchedState) (w : Waiting) → IsFrom s.accepted w → IsFlushAt s.accepted w.number → is_flush w.request.kind ≡ true
at_flush s w f flush =
    sym (ap is_flush (same_kind s w f)) ∙ true-is_flush f.request.kind (at_holds (λ (q : Request). q.kind ≡ Flush) (slice_get s.accepted w.number) f.request f.taken flush)

ordered_at : (s : SchedState) (w : Waiting) → IsFrom s.accepted w → w.request.ordered ≡ true → IsOrdered s.accepted w.number
ordered_at s w f ordered =
    holds_at (λ (q : Request). IsTrue q.ordered) (slice_get s.accepted w.number) f.request f.taken (ap (λ (q : Request). q.ordered) (sym f.same) ∙ ordered)

at_ordered : (s : SchedState) (w : Waiting) → IsFrom s.accepted w → IsOrdered s.accepted w.number → w.request.ordered ≡ true
at_ordered s w f ordered =
    ap (λ (q : Request). q.ordered) f.same ∙ at_holds (λ (q : Request). IsTrue q.ordered) (slice_get s.accepted w.number) f.request f.taken ordered

-- ---- puts of one block

pub one_block : (k l : Kind) (block : ℕ) → kind_block k ≡ Some block → kind_block l ≡ Some block → have_one_block k l ≡ true
one_block (Put a body) (Put b other) block e f = eq-eqb a b (same_Some a block e ∙ sym (same_Some b block f))
one_block (Put a body) Flush block e f = absurd (none-some block f)
one_block Flush l block e f = absurd (none-some block e)

pub block_of_both : (k l : Kind) → have_one_block k l ≡ true → (block : ℕ) × (kind_block k ≡ Some block) × (kind_block l ≡ Some block)
block_of_both (Put a body) (Put b other) e = (a, refl, ap Some (sym (eqb-true a b e)))
block_of_both (Put a body) Flush e = absurd (both_ways false refl e)
block_of_both Flush l e = absurd (both_ways false refl e)

pub stands_one_block : (u w : Waiting) → stands_before u w ≡ true → have_one_block u.request.kind w.request.kind ≡ true
stands_one_block u w stands = (and_parts (nat_lt u.number w.number) (have_one_block u.request.kind w.request.kind) stands).1

put_not_flush : (k : Kind) (block : ℕ) → kind_block k ≡ Some block → is_flush k ≡ false
put_not_flush (Put a body) block e = refl
put_not_flush Flush block e = absurd (none-some block e)

block_there : (k : Kind) → is_flush k ≡ false → (block : ℕ) × (kind_block k ≡ Some block)
block_there (Put a body) e = (a, refl)
block_there Flush e = absurd (both_ways true e refl)

-- ---- what may leave

pub leaves-means : (s : SchedState) (w : Waiting) → IsValid s → In w s.queue.waiting → may_leave s.queue.waiting w ≡ true → MayLeave (seen_of s) w.number
leaves-means s w v h may =
    let f = v.waiting w h in
    record {
      waits = place_waiting s w w.number v h refl;
      earlier = λ j block lt other p q.
          let u = waiting_place s j v other in
          let g = v.waiting u.0 u.1 in
          let mine = at_put s w block f q in
          let theirs = at_put s u.0 block g (subst (λ n. IsPutOf s.accepted n block) (sym u.2) p) in
          let never = put_first s u.0 w u.1 may (put_not_flush w.request.kind block mine) in
          let less = lt-ltb u.0.number w.number (let n = u.2 in omega (arith, lt, n)) in
          both_ways (stands_before u.0 w) never (and_from (nat_lt u.0.number w.number) (have_one_block u.0.request.kind w.request.kind) less (one_block u.0.request.kind w.request.kind block theirs mine));
      alone = λ flush j other.
          let u = waiting_place s j v other in
          let one : (length s.queue.waiting == 1) ≡ true = rw (at_flush s w f flush) at may in
          let same = only_one s.queue.waiting u.0 w (eqb-true (length s.queue.waiting) 1 one) u.1 h in
          sym u.2 ∙ ap (λ (x : Waiting). x.number) same;
    }

-- those that wait are one, where all have one number
one_number : (ws : List Waiting) (n : ℕ) (w : Waiting) → IsAscending (λ (x : Waiting). x.number) ws → In w ws → ((u : Waiting) → In u ws → u.number ≡ n) → length ws ≡ 1
one_number [] n w a h all = absurd h
one_number (x ∷ []) n w a h all = refl
one_number (x ∷ y ∷ zs) n w a h all =
    let lt = a.0 y (inl refl) in
    let p = all x (inl refl) in
    let q = all y (inr (inl refl)) in
    absurd (omega (arith, lt, p, q))

pub means-leaves : (s : SchedState) (i : ℕ) → IsValid s → MayLeave (seen_of s) i → (w : Waiting) × In w s.queue.waiting × (w.number ≡ i) × (may_leave s.queue.waiting w ≡ true)
means-leaves s i v m =
    let at = waiting_place s i v m.waits in
    let w = at.0 in
    let f = v.waiting w at.1 in
    let may : may_leave s.queue.waiting w ≡ true =
    elim (cases_Bool (is_flush w.request.kind)) [
      | inl t ↦
          let flush = subst (λ n. IsFlushAt s.accepted n) at.2 (flush_at s w f t) in
          let one = one_number s.queue.waiting i w v.ascending at.1 (λ u h. m.alone flush u.number (place_waiting s u u.number v h refl)) in
          rw t (eq-eqb (length s.queue.waiting) 1 one)
      | inr g ↦
          rw g
          (list_all-In (λ u. not (stands_before u w)) s.queue.waiting
          (λ u h.
          elim (cases_Bool (stands_before u w)) [
            | inl t ↦
                let p = and_parts (nat_lt u.number w.number) (have_one_block u.request.kind w.request.kind) t in
                let block = block_of_both u.request.kind w.request.kind p.1 in
                let lt : u.number < i = subst (λ n. u.number < n) at.2 (ltb-true u.number w.number p.0) in
                absurd (m.earlier u.number block.0 lt (place_waiting s u u.number v h refl) (put_at s u block.0 (v.waiting u h) block.1)
                (subst (λ n. IsPutOf s.accepted n block.0) at.2 (put_at s w block.0 f block.2)))
            | inr n ↦ ap not n
          ]))
    ] in
    (w, at.1, at.2, may)

-- ---- what leaves as the barrier

-- what waits was accepted
near : (s : SchedState) (w : Waiting) → IsValid s → In w s.queue.waiting → w.number < length s.accepted
near s w v h = let f = v.waiting w h in slice_get-length s.accepted w.number f.request f.taken

put_there : (s : SchedState) (b : ℕ) (r : Request) → slice_get s.accepted b ≡ Some r → is_flush r.kind ≡ false → IsPut s.accepted b
put_there s b r at put =
    let block = block_there r.kind put in
    (block.0, ap (option_and_then (λ (q : Request). kind_block q.kind)) at ∙ block.1)

fence_there : (s : SchedState) (b : ℕ) (r : Request) → slice_get s.accepted b ≡ Some r → (r.barrier || is_flush r.kind) ≡ true → IsFence s.accepted b
fence_there s b r at fence = holds_at (λ (q : Request). IsTrue (q.barrier || is_flush q.kind)) (slice_get s.accepted b) r at fence

pub flag-means : (s : SchedState) (w : Waiting) → IsValid s → In w s.queue.waiting → leaves_flagged s.queue w ≡ true → LeavesAsBarrier (seen_of s) w.number
flag-means s w v h flag =
    let f = v.waiting w h in
    elim (cases_Bool (is_flush w.request.kind)) [
      | inl t ↦ inl (flush_at s w f t)
      | inr put ↦
          let last = flagged_last s w flag put in
          ⊎_elim
          (λ t. absurd (both_ways (is_flush w.request.kind) put t))
          (λ c.
          let e = v.epoch_closing (barrier_is s.queue.closing c.0) in
          let lt = near s w v h in
          let end = e.last in
          inr (record {
            ordered = ordered_at s w f last.0;
            barrier = (e.place, omega (arith, lt, end), put_there s e.place e.request e.at e.put, fence_there s e.place e.request e.at (or_left e.request.barrier (is_flush e.request.kind) e.barrier));
            last = λ j other o.
                let u = waiting_place s j v other in
                ⊎_elim
                (λ same. sym u.2 ∙ same)
                (λ apart.
                let orderless = last.1 u.0 (stays s u.0 w u.1 apart) in
                absurd (both_ways u.0.request.ordered orderless (at_ordered s u.0 (v.waiting u.0 u.1) (subst (λ n. IsOrdered s.accepted n) (sym u.2) o))))
                (cases_eq u.0.number w.number);
          }))
          (flag_cases s w flag)
    ]
  where
    barrier_is : (c : Closing) → is_barrier_closing c ≡ true → c ≡ closings.Barrier
    barrier_is closings.Open e = absurd (false≢true e)
    barrier_is closings.Barrier e = refl
    barrier_is closings.Flush e = absurd (false≢true e)

-- a put does not stand where a flush does
put_or_flush : (s : SchedState) (b : ℕ) (w : Waiting) → IsFrom s.accepted w → IsPut s.accepted b → is_flush w.request.kind ≡ true → b ≡ w.number → ⊥
put_or_flush s b w f put flush same =
    let mine = at_put s w put.0 f (subst (λ n. IsPutOf s.accepted n put.0) same put.1) in
    both_ways (is_flush w.request.kind) (put_not_flush w.request.kind put.0 mine) flush

-- while an order-preserving request of an epoch waits that a barrier closed, it is the barrier that closes the queue
barrier_closes : (s : SchedState) (w : Waiting) (b : ℕ) (c : Closing) → s.queue.closing ≡ c → IsValid s → In w s.queue.waiting → w.request.ordered ≡ true → w.number ≤ b → IsPut s.accepted b → IsFence s.accepted b → is_barrier_closing c ≡ true
barrier_closes s w b closings.Open e v h ordered le put fence =
    let late = v.behind_fence w b h ordered fence (inr (ap is_open e)) in absurd (omega (arith, late, le))
barrier_closes s w b closings.Barrier e v h ordered le put fence = refl
barrier_closes s w b closings.Flush e v h ordered le put fence =
    let x = v.flush_closing e in
    let f = v.waiting x.waiting x.there in
    let end = x.last in
    let within = holds-length (λ (q : Request). IsTrue (q.barrier || is_flush q.kind)) s.accepted b fence in
    ⊎_elim
    (λ same. absurd (put_or_flush s b x.waiting f put x.flush same))
    (λ apart. let late = v.behind_fence w b h ordered fence (inl (omega (arith, end, within, apart))) in absurd (omega (arith, late, le)))
    (cases_eq b x.waiting.number)

pub means-flag : (s : SchedState) (w : Waiting) → IsValid s → In w s.queue.waiting → LeavesAsBarrier (seen_of s) w.number → leaves_flagged s.queue w ≡ true
means-flag s w v h (inl flush) =
    let rest = is_barrier_closing s.queue.closing && (w.request.ordered && not (waits_ordered (without w.number s.queue.waiting))) in
    or_left (is_flush w.request.kind) rest (at_flush s w (v.waiting w h) flush)
means-flag s w v h (inr l) =
    let f = v.waiting w h in
    let rest = without w.number s.queue.waiting in
    let ordered = at_ordered s w f l.ordered in
    let b = l.barrier in
    let closed = barrier_closes s w b.0 s.queue.closing refl v h ordered b.1 b.2 b.3 in
    let none : waits_ordered rest ≡ false =
    list_any-none (λ (u : Waiting). u.request.ordered) rest
    (λ u i.
    let was = stayed s u w i in
    elim (cases_Bool u.request.ordered) [
      | inl t ↦ absurd (was.1 (l.last u.number (place_waiting s u u.number v was.0 refl) (ordered_at s u (v.waiting u was.0) t)))
      | inr n ↦ n
    ]) in
    or_right (is_flush w.request.kind) (is_barrier_closing s.queue.closing && (w.request.ordered && not (waits_ordered rest)))
    (and_from (is_barrier_closing s.queue.closing) (w.request.ordered && not (waits_ordered rest)) closed
    (and_from w.request.ordered (not (waits_ordered rest)) ordered (ap not none)))

-- ---- what keeps it from accepting

closed_means : (s : SchedState) (c : Closing) → IsValid s → s.queue.closing ≡ c → is_open c ≡ false → HasNotLeft (seen_of s)
closed_means s closings.Open v e shut = absurd (both_ways true shut refl)
closed_means s closings.Barrier v e shut =
    let x = v.epoch_closing e in
    let w = x.waiting in
    let lt = near s w v x.there in
    let end = x.last in
    record {
      place = w.number;
      waits = place_waiting s w w.number v x.there refl;
      kept = inl (ordered_at s w (v.waiting w x.there) x.ordered);
      fence = (x.place, omega (arith, lt, end), fence_there s x.place x.request x.at (or_left x.request.barrier (is_flush x.request.kind) x.barrier));
    }
closed_means s closings.Flush v e shut =
    let x = v.flush_closing e in
    let w = x.waiting in
    let f = v.waiting w x.there in
    record {
      place = w.number;
      waits = place_waiting s w w.number v x.there refl;
      kept = inr (flush_at s w f x.flush);
      fence = (w.number, omega arith, fence_there s w.number f.request f.taken (or_right f.request.barrier (is_flush f.request.kind) (ap is_flush (same_kind s w f) ∙ x.flush)));
    }

open_means : (s : SchedState) → IsValid s → is_open s.queue.closing ≡ true → HasNotLeft (seen_of s) → ⊥
open_means s v unblocked n =
    let at = waiting_place s n.place v n.waits in
    let w = at.0 in
    let f = v.waiting w at.1 in
    let fence = n.fence in
    ⊎_elim
    (λ o.
    let ordered = at_ordered s w f (subst (λ k. IsOrdered s.accepted k) (sym at.2) o) in
    let late = v.behind_fence w fence.0 at.1 ordered fence.2 (inr unblocked) in
    let same = at.2 in
    let le = fence.1 in
    absurd (omega (arith, late, same, le)))
    (λ flush.
    let late = v.behind_flush w w.number at.1 (subst (λ k. IsFlushAt s.accepted k) (sym at.2) flush) (inr unblocked) in
    absurd (omega (arith, late)))
    n.kept

pub blocked-means : (s : SchedState) → IsValid s → (is_blocked s.queue ≡ true) ↔ HasNotLeft (seen_of s)
blocked-means s v = (
  λ blocked. closed_means s s.queue.closing v refl (not-true (is_open s.queue.closing) blocked),
  λ n.
      elim (cases_Bool (is_open s.queue.closing)) [
        | inl t ↦ absurd (open_means s v t n)
        | inr f ↦ ap not f
      ],
)

-- ---- the same of what is seen of another

waiting_of : (s t : SchedSeen) (i : ℕ) → s.accepted ≡ t.accepted → s.waiting ≡ t.waiting → IsWaitingAt s i → IsWaitingAt t i
waiting_of s t i a b w =
    record { request = w.request; taken = ap (λ l. slice_get l i) (sym a) ∙ w.taken; waits = subst (In w.request.id) b w.waits }

pub may_leave_of : (s t : SchedSeen) (i : ℕ) → s.accepted ≡ t.accepted → s.waiting ≡ t.waiting → MayLeave s i → MayLeave t i
may_leave_of s t i a b m = record {
  waits = waiting_of s t i a b m.waits;
  earlier = λ j block lt w p q. m.earlier j block lt (waiting_of t s j (sym a) (sym b) w) (subst (λ l. IsPutOf l j block) (sym a) p) (subst (λ l. IsPutOf l i block) (sym a) q);
  alone = λ f j w. m.alone (subst (λ l. IsFlushAt l i) (sym a) f) j (waiting_of t s j (sym a) (sym b) w);
}

pub not_left_of : (s t : SchedSeen) → s.accepted ≡ t.accepted → s.waiting ≡ t.waiting → HasNotLeft s → HasNotLeft t
not_left_of s t a b n = record {
  place = n.place;
  waits = waiting_of s t n.place a b n.waits;
  kept = subst (λ l. IsOrdered l n.place ⊎ IsFlushAt l n.place) a n.kept;
  fence = (n.fence.0, n.fence.1, subst (λ l. IsFence l n.fence.0) a n.fence.2);
}
