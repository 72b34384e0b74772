-- While something waits, something may leave; and something waits while the queue is closed.
use Rattle.std.specs.Prelude.{◌≡◌, ◌<◌, not, refl, true, false, List, [], ◌∷◌, length, nat_lt, slice_get}
use Rattle.std.proofs.Common.{ap, sym, subst, ◌∙◌, inl, inr, ⊎_elim, arith}
use Rattle.std.proofs.lemmas.Bool.{cases_Bool, false≢true, and_left, le-ltb, eq-eqb, not-true}
use Rattle.blk_base.specs.Members.{In, IsAscending}
use Rattle.blk_base.specs.laws.Members.{In-slice_get, filter-In, list_all-In, slice_get-length}
use Rattle.order_model.specs.declared.request.Kind.TheVariants.{Flush}
use Rattle.order_model.specs.declared.request.Request.{Request}
use Rattle.order_model.specs.OrderClosed.{is_flush, IsFlushAt}
use Rattle.schedulers.specs.declared.reassign.closing.Closing.{Closing}
use Rattle.schedulers.specs.declared.reassign.closing.Closing.TheVariants as closings
use Rattle.schedulers.specs.reassign.Epoch.{Waiting, is_open, is_blocked, have_one_block, stands_before, may_leave, eligible}
use Rattle.schedulers.specs.reassign.Sched.{SchedState}
use Rattle.schedulers.specs.reassign.laws.Valid.{IsValid}
use Rattle.schedulers.specs.reassign.laws.WentLaws.{is_flush-true, holds_at}

In-nonempty : {X : Type 0} (xs : List X) (x : X) → In x xs → 0 < length xs
In-nonempty xs x h = let at = In-slice_get xs x h in omega (arith, at.1)

-- the first of those that wait is a flush only where it waits alone
flush_first : (s : SchedState) (w : Waiting) (ws : List Waiting) → IsValid s → s.queue.waiting ≡ w ∷ ws → is_flush w.request.kind ≡ true → length ws ≡ 0
flush_first s w [] v e flush = refl
flush_first s w (u ∷ us) v e flush =
    let mine : In w s.queue.waiting = subst (In w) (sym e) (inl refl) in
    let other : In u s.queue.waiting = subst (In u) (sym e) (inr (inl refl)) in
    let order : IsAscending (λ (x : Waiting). x.number) (w ∷ u ∷ us) = subst (IsAscending (λ (x : Waiting). x.number)) e v.ascending in
    let later : w.number < u.number = order.0 u (inl refl) in
    let f = v.waiting w mine in
    let g = v.waiting u other in
    let near = slice_get-length s.accepted u.number g.request g.taken in
    let kind = is_flush-true f.request.kind (ap (λ (q : Request). is_flush q.kind) (sym f.same) ∙ flush) in
    let at : IsFlushAt s.accepted w.number = holds_at (λ (q : Request). q.kind ≡ Flush) (slice_get s.accepted w.number) f.request f.taken kind in
    let late = v.behind_flush w w.number mine at (inl (omega (arith, later, near))) in
    absurd (omega (arith, late))

-- and a put that nothing stands before
put_first : (w : Waiting) (ws : List Waiting) → IsAscending (λ (x : Waiting). x.number) (w ∷ ws) → (u : Waiting) → In u (w ∷ ws) → stands_before u w ≡ false
put_first w ws a u h =
    let le : nat_lt u.number w.number ≡ false =
    le-ltb u.number w.number
    (⊎_elim (λ e. let n = ap (λ (x : Waiting). x.number) e in omega (arith, n)) (λ i. let lt = a.0 u i in omega (arith, lt)) h) in
    and_left (nat_lt u.number w.number) (have_one_block u.request.kind w.request.kind) le

first_leaves : (s : SchedState) (w : Waiting) (ws : List Waiting) → IsValid s → s.queue.waiting ≡ w ∷ ws → may_leave (w ∷ ws) w ≡ true
first_leaves s w ws v e =
    elim (cases_Bool (is_flush w.request.kind)) [
      | inl t ↦
          let n = flush_first s w ws v e t in
          rw t (eq-eqb (length (w ∷ ws)) 1 (omega (arith, n)))
      | inr f ↦
          let order = subst (IsAscending (λ (x : Waiting). x.number)) e v.ascending in
          rw f (list_all-In (λ u. not (stands_before u w)) (w ∷ ws) (λ u h. ap not (put_first w ws order u h)))
    ]

some_eligible : (s : SchedState) (ws : List Waiting) → IsValid s → s.queue.waiting ≡ ws → 0 < length ws → 0 < length (eligible ws)
some_eligible s [] v e h = absurd (omega (arith, h))
some_eligible s (w ∷ ws) v e h =
    In-nonempty (eligible (w ∷ ws)) w
    (filter-In (may_leave (w ∷ ws)) (w ∷ ws) w (inl refl) (first_leaves s w ws v e))

pub eligible-nonempty : (s : SchedState) → IsValid s → 0 < length s.queue.waiting → 0 < length (eligible s.queue.waiting)
eligible-nonempty s v h = some_eligible s s.queue.waiting v refl h

closing_waits : (s : SchedState) (c : Closing) → IsValid s → s.queue.closing ≡ c → is_open c ≡ false → 0 < length s.queue.waiting
closing_waits s closings.Open v e h = absurd (false≢true (sym h))
closing_waits s closings.Barrier v e h =
    let x = v.epoch_closing e in In-nonempty s.queue.waiting x.waiting x.there
closing_waits s closings.Flush v e h =
    let x = v.flush_closing e in In-nonempty s.queue.waiting x.waiting x.there

pub blocked-nonempty : (s : SchedState) → IsValid s → is_blocked s.queue ≡ true → 0 < length s.queue.waiting
blocked-nonempty s v h =
    closing_waits s s.queue.closing v refl (not-true (is_open s.queue.closing) h)
