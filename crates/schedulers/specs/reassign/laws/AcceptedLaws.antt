-- An acceptance keeps what a scheduler keeps.
use Rattle.std.specs.Prelude.{◌≡◌, ℕ, ◌+◌, ◌<◌, ◌≤◌, ◌||◌, not, ◌⊎◌, true, false, [], ◌∷◌, ◌++◌, length, count_by, Some, IsTrue, slice_get, refl, if◌then◌else◌}
use Rattle.std.proofs.Common.{ap, sym, subst, ◌∙◌, inl, inr, ⊎_elim, arith}
use Rattle.std.proofs.lemmas.Bool.{cases_Bool, false≢true, both_ways, and_parts, or_right, cases_lt, or_cases, not-true, eqb-false}
use Rattle.std.proofs.lemmas.Option.{same_Some}
use Rattle.std.proofs.lemmas.List.{length_push}
use Rattle.std.proofs.lemmas.List.Sums.{sum_by_push}
use Rattle.blk_base.specs.Members.{In}
use Rattle.blk_base.specs.laws.Members.{IsAscending-push, In-push, In-push_left, In-push_cases, slice_get-push, slice_get-push_left, slice_get-push_cases, slice_get-length, slice_get-In}
use Rattle.order_model.specs.declared.command.Command.{Command}
use Rattle.order_model.specs.declared.request.Kind.TheVariants.{Flush}
use Rattle.order_model.specs.declared.request.Request.{Request}
use Rattle.order_model.specs.OrderClosed.{is_flush, IsPutOf, IsFence, IsFlushAt}
use Rattle.schedulers.specs.declared.reassign.closing.Closing.TheVariants as closings
use Rattle.schedulers.specs.reassign.Epoch.{Waiting, is_open, is_barrier_closing, is_full, can_accept, unflagged, closing_of}
use Rattle.order_model.specs.Single.{command_of_request}
use Rattle.schedulers.specs.reassign.Sched.{SchedState, accepted, seen_of}
use Rattle.schedulers.specs.reassign.Scheduler.{IsAcceptable}
use Rattle.schedulers.specs.reassign.laws.Valid.{Went, IsFrom, IsPassed, StandsFor, IsEpochClosing, IsFlushClosing, IsValid}
use Rattle.schedulers.specs.reassign.laws.WentLaws.{is_flush_closing, went-length, command-id, true-is_flush, holds-length, holds-push_below, holds-push_cases}

abbrev entrant : SchedState → Request → Waiting
entrant s r = record { number = s.queue.next; request = unflagged r }

-- ---- what closes the queue

-- a fence leaves the queue closed
closing_of-fence : (r : Request) → (r.barrier || is_flush r.kind) ≡ true → is_open (closing_of r) ≡ false
closing_of-fence r h =
    elim (cases_Bool (is_flush r.kind)) [
      | inl t ↦ rw t refl
      | inr f ↦
          let b : r.barrier ≡ true = ⊎_elim (λ b. b) (λ t. absurd (both_ways (is_flush r.kind) f t)) (or_cases r.barrier (is_flush r.kind) h) in
          rw f (rw b refl)
    ]

closing_of-barrier : (r : Request) → closing_of r ≡ closings.Barrier → (r.barrier ≡ true) × (is_flush r.kind ≡ false)
closing_of-barrier r e =
    let h : is_barrier_closing (closing_of r) ≡ true = ap is_barrier_closing e in
    elim (cases_Bool (is_flush r.kind)) [
      | inl t ↦ absurd (false≢true (rw t at h))
      | inr f ↦
          elim (cases_Bool r.barrier) [
            | inl b ↦ (b, f)
            | inr n ↦ absurd (false≢true (rw n at (rw f at h)))
          ]
    ]

closing_of-flush : (r : Request) → closing_of r ≡ closings.Flush → is_flush r.kind ≡ true
closing_of-flush r e =
    let h : is_flush_closing (closing_of r) ≡ true = ap is_flush_closing e in
    elim (cases_Bool (is_flush r.kind)) [
      | inl t ↦ t
      | inr f ↦
          elim (cases_Bool r.barrier) [
            | inl b ↦ absurd (false≢true (rw b at (rw f at h)))
            | inr n ↦ absurd (false≢true (rw n at (rw f at h)))
          ]
    ]

-- the queue is closed behind a fence alone
not_open-closing_of : (r : Request) → not (is_open (closing_of r)) ≡ (r.barrier || is_flush r.kind)
not_open-closing_of r =
    elim (cases_Bool (is_flush r.kind)) [
      | inl t ↦
          elim (cases_Bool r.barrier) [
            | inl b ↦ rw t (rw b refl)
            | inr n ↦ rw t (rw n refl)
          ]
      | inr f ↦
          elim (cases_Bool r.barrier) [
            | inl b ↦ rw f (rw b refl)
            | inr n ↦ rw f (rw n refl)
          ]
    ]

-- ---- what went

went-keeps : (s : SchedState) (r : Request) (i k : ℕ) → Went s i k → Went (accepted s r) i k
went-keeps s r i k g = record {
  request = g.request;
  flagged = g.flagged;
  accepted = slice_get-push_left s.accepted r i (slice_get-length s.accepted i g.request g.accepted) ∙ g.accepted;
  sent = g.sent;
  flag = g.flag;
}

went-before : (s : SchedState) (r : Request) → IsValid s → IsAcceptable (seen_of s) r → (i k : ℕ) → Went (accepted s r) i k → Went s i k
went-before s r v a i k g =
    let m = v.made k (slice_get-length s.sent_out k (command_of_request g.request g.flagged) g.sent) in
    let p = m.1.request in
    let e = same_Some (command_of_request p m.1.flagged) (command_of_request g.request g.flagged) (sym m.1.sent ∙ g.sent) in
    let id : p.id ≡ g.request.id = command-id p g.request m.1.flagged g.flagged e in
    ⊎_elim
    (λ old. record { request = g.request; flagged = g.flagged; accepted = old; sent = g.sent; flag = g.flag })
    (λ new. absurd (a.new p (slice_get-In s.accepted m.0 p m.1.accepted) (id ∙ ap (λ (q : Request). q.id) (sym new.1))))
    (slice_get-push_cases s.accepted r i g.request g.accepted)

-- ---- the parts

accepted-ids : (s : SchedState) (r : Request) → IsValid s → IsAcceptable (seen_of s) r → (i j : ℕ) (p q : Request) → slice_get (s.accepted ++ r ∷ []) i ≡ Some p → slice_get (s.accepted ++ r ∷ []) j ≡ Some q → p.id ≡ q.id → i ≡ j
accepted-ids s r v a i j p q e f d =
    ⊎_elim
    (λ old.
    ⊎_elim
    (λ x. v.ids i j p q old x d)
    (λ new. absurd (a.new p (slice_get-In s.accepted i p old) (d ∙ ap (λ (z : Request). z.id) (sym new.1))))
    (slice_get-push_cases s.accepted r j q f))
    (λ new.
    ⊎_elim
    (λ x. absurd (a.new q (slice_get-In s.accepted j q x) (sym d ∙ ap (λ (z : Request). z.id) (sym new.1))))
    (λ x. new.0 ∙ sym x.0)
    (slice_get-push_cases s.accepted r j q f))
    (slice_get-push_cases s.accepted r i p e)

accepted-waiting : (s : SchedState) (r : Request) → IsValid s → (w : Waiting) → In w (s.queue.waiting ++ entrant s r ∷ []) → IsFrom (s.accepted ++ r ∷ []) w
accepted-waiting s r v w h =
    ⊎_elim
    (λ old.
    let f = v.waiting w old in
    record {
      request = f.request;
      taken = slice_get-push_left s.accepted r w.number (slice_get-length s.accepted w.number f.request f.taken) ∙ f.taken;
      same = f.same;
    })
    (λ e.
    let new : IsFrom (s.accepted ++ r ∷ []) (entrant s r) = record {
      request = r;
      taken = ap (λ n. slice_get (s.accepted ++ r ∷ []) n) v.next ∙ slice_get-push s.accepted r;
      same = refl;
    } in
    subst (IsFrom (s.accepted ++ r ∷ [])) e new)
    (In-push_cases s.queue.waiting (entrant s r) w h)

waiting-next : (s : SchedState) → IsValid s → (w : Waiting) → In w s.queue.waiting → w.number < s.queue.next
waiting-next s v w h =
    let f = v.waiting w h in
    let lt = slice_get-length s.accepted w.number f.request f.taken in
    omega (arith, lt, v.next)

accepted-counted : (s : SchedState) (r : Request) → IsValid s → length s.sent_out + length (s.queue.waiting ++ entrant s r ∷ []) ≡ length (s.accepted ++ r ∷ [])
accepted-counted s r v =
    let m = length_push s.queue.waiting (entrant s r) in
    let n = length_push s.accepted r in
    omega (arith, m, n, v.counted)

accepted-somewhere : (s : SchedState) (r : Request) → IsValid s → (i : ℕ) → i < length (s.accepted ++ r ∷ []) → ((w : Waiting) × In w (s.queue.waiting ++ entrant s r ∷ []) × (w.number ≡ i)) ⊎ ((k : ℕ) × Went (accepted s r) i k)
accepted-somewhere s r v i lt =
    ⊎_elim
    (λ old.
    ⊎_elim
    (λ w. inl (w.0, In-push_left s.queue.waiting (entrant s r) w.0 w.1, w.2))
    (λ g. inr (g.0, went-keeps s r i g.0 g.1))
    (v.somewhere i old))
    (λ last.
    let n = length_push s.accepted r in
    let e : s.queue.next ≡ i = omega (arith, v.next, n, lt, last) in
    inl (entrant s r, In-push s.queue.waiting (entrant s r), e))
    (cases_lt i (length s.accepted))

accepted-not_both : (s : SchedState) (r : Request) → IsValid s → IsAcceptable (seen_of s) r → (w : Waiting) (k : ℕ) → In w (s.queue.waiting ++ entrant s r ∷ []) → Went (accepted s r) w.number k → ⊥
accepted-not_both s r v a w k h g =
    let old = went-before s r v a w.number k g in
    ⊎_elim
    (λ there. v.not_both w k there old)
    (λ e.
    let lt = (went-length s w.number k old).0 in
    let n : s.queue.next ≡ w.number = ap (λ (u : Waiting). u.number) e in
    absurd (omega (arith, lt, n, v.next)))
    (In-push_cases s.queue.waiting (entrant s r) w h)

-- a fence that is passed is an old one
old_fence : (s : SchedState) (r : Request) (b : ℕ) → IsFence (s.accepted ++ r ∷ []) b → IsPassed (accepted s r) b → IsFence s.accepted b
old_fence s r b fence passed =
    ⊎_elim
    (λ old. old)
    (λ new.
    ⊎_elim
    (λ lt. let n = length_push s.accepted r in absurd (omega (arith, lt, n, new.0)))
    (λ unblocked. absurd (both_ways (is_open (closing_of r)) (closing_of-fence r new.1) unblocked))
    passed)
    (holds-push_cases (λ (q : Request). IsTrue (q.barrier || is_flush q.kind)) s.accepted r b fence)

old_flush : (s : SchedState) (r : Request) (b : ℕ) → IsFlushAt (s.accepted ++ r ∷ []) b → IsPassed (accepted s r) b → IsFlushAt s.accepted b
old_flush s r b fence passed =
    ⊎_elim
    (λ old. old)
    (λ new.
    let flush = or_right r.barrier (is_flush r.kind) (true-is_flush r.kind new.1) in
    ⊎_elim
    (λ lt. let n = length_push s.accepted r in absurd (omega (arith, lt, n, new.0)))
    (λ unblocked. absurd (both_ways (is_open (closing_of r)) (closing_of-fence r flush) unblocked))
    passed)
    (holds-push_cases (λ (q : Request). q.kind ≡ Flush) s.accepted r b fence)

accepted-behind_fence : (s : SchedState) (r : Request) → IsValid s → is_open s.queue.closing ≡ true → (w : Waiting) (b : ℕ) → In w (s.queue.waiting ++ entrant s r ∷ []) → w.request.ordered ≡ true → IsFence (s.accepted ++ r ∷ []) b → IsPassed (accepted s r) b → b < w.number
accepted-behind_fence s r v unblocked w b h o fence passed =
    let old = old_fence s r b fence passed in
    ⊎_elim
    (λ there. v.behind_fence w b there o old (inr unblocked))
    (λ e.
    let lt = holds-length (λ (q : Request). IsTrue (q.barrier || is_flush q.kind)) s.accepted b old in
    let n : s.queue.next ≡ w.number = ap (λ (u : Waiting). u.number) e in
    omega (arith, lt, n, v.next))
    (In-push_cases s.queue.waiting (entrant s r) w h)

accepted-behind_flush : (s : SchedState) (r : Request) → IsValid s → is_open s.queue.closing ≡ true → (w : Waiting) (b : ℕ) → In w (s.queue.waiting ++ entrant s r ∷ []) → IsFlushAt (s.accepted ++ r ∷ []) b → IsPassed (accepted s r) b → b < w.number
accepted-behind_flush s r v unblocked w b h flush passed =
    let old = old_flush s r b flush passed in
    ⊎_elim
    (λ there. v.behind_flush w b there old (inr unblocked))
    (λ e.
    let lt = holds-length (λ (q : Request). q.kind ≡ Flush) s.accepted b old in
    let n : s.queue.next ≡ w.number = ap (λ (u : Waiting). u.number) e in
    omega (arith, lt, n, v.next))
    (In-push_cases s.queue.waiting (entrant s r) w h)

accepted-fences : (s : SchedState) (r : Request) → IsValid s → IsAcceptable (seen_of s) r → is_open s.queue.closing ≡ true → (b : ℕ) → IsFence (s.accepted ++ r ∷ []) b → IsPassed (accepted s r) b → (p : ℕ) × StandsFor (accepted s r) b p
accepted-fences s r v a unblocked b fence passed =
    let old = v.fences b (old_fence s r b fence passed) (inr unblocked) in (
      old.0,
      record {
        barrier = old.1.barrier;
        before = λ i k le o g.
            let was = went-before s r v a i k g in
            old.1.before i k le (holds-push_below (λ (q : Request). IsTrue q.ordered) s.accepted r i ((went-length s i k was).0) o) was;
        after = λ j l lt g. old.1.after j l lt (went-before s r v a j l g);
      },
    )

-- a put that stands before another one in the longer list
old_put : (s : SchedState) (r : Request) (i block : ℕ) → i < length s.accepted → IsPutOf (s.accepted ++ r ∷ []) i block → IsPutOf s.accepted i block
old_put s r i block lt p = rw (slice_get-push_left s.accepted r i lt) at p

accepted-blocks : (s : SchedState) (r : Request) → IsValid s → IsAcceptable (seen_of s) r → (i j l block : ℕ) → i < j → IsPutOf (s.accepted ++ r ∷ []) i block → IsPutOf (s.accepted ++ r ∷ []) j block → Went (accepted s r) j l → (k : ℕ) × Went (accepted s r) i k × (k < l)
accepted-blocks s r v a i j l block lt p q g =
    let was = went-before s r v a j l g in
    let near = (went-length s j l was).0 in
    let old = v.blocks i j l block lt (old_put s r i block (omega (arith, lt, near)) p) (old_put s r j block near q) was in
    (old.0, went-keeps s r i old.0 old.1, old.2)

accepted-before_flush : (s : SchedState) (r : Request) → IsValid s → IsAcceptable (seen_of s) r → (i f l : ℕ) → i < f → IsFlushAt (s.accepted ++ r ∷ []) f → Went (accepted s r) f l → (k : ℕ) × Went (accepted s r) i k × (k < l)
accepted-before_flush s r v a i f l lt flush g =
    let was = went-before s r v a f l g in
    let near = (went-length s f l was).0 in
    let old = v.before_flush i f l lt (holds-push_below (λ (q : Request). q.kind ≡ Flush) s.accepted r f near flush) was in
    (old.0, went-keeps s r i old.0 old.1, old.2)

accepted-after_flush : (s : SchedState) (r : Request) → IsValid s → IsAcceptable (seen_of s) r → (f j l : ℕ) → f < j → IsFlushAt (s.accepted ++ r ∷ []) f → Went (accepted s r) j l → (k : ℕ) × Went (accepted s r) f k × (k < l)
accepted-after_flush s r v a f j l lt flush g =
    let was = went-before s r v a j l g in
    let near = (went-length s j l was).0 in
    let old = v.after_flush f j l lt (holds-push_below (λ (q : Request). q.kind ≡ Flush) s.accepted r f (omega (arith, lt, near)) flush) was in
    (old.0, went-keeps s r f old.0 old.1, old.2)

accepted-epoch_closing : (s : SchedState) (r : Request) → IsAcceptable (seen_of s) r → closing_of r ≡ closings.Barrier → IsEpochClosing (accepted s r)
accepted-epoch_closing s r a e =
    let c = closing_of-barrier r e in
    record {
      waiting = entrant s r;
      there = In-push s.queue.waiting (entrant s r);
      ordered = a.barrier c.0;
      place = length s.accepted;
      request = r;
      last = sym (length_push s.accepted r);
      at = slice_get-push s.accepted r;
      barrier = c.0;
      put = c.1;
    }

accepted-flush_closing : (s : SchedState) (r : Request) → IsValid s → closing_of r ≡ closings.Flush → IsFlushClosing (accepted s r)
accepted-flush_closing s r v e = record {
  waiting = entrant s r;
  there = In-push s.queue.waiting (entrant s r);
  flush = closing_of-flush r e;
  last = let n = length_push s.accepted r in omega (arith, v.next, n);
}

accepted-count : (s : SchedState) (r : Request) → IsValid s → is_open s.queue.closing ≡ true → count_by (λ (c : Command). c.barrier) s.sent_out + (if not (is_open (closing_of r)) then 1 else 0) ≡ count_by (λ (q : Request). q.barrier || is_flush q.kind) (s.accepted ++ r ∷ [])
accepted-count s r v unblocked =
    let old : count_by (λ (c : Command). c.barrier) s.sent_out + 0 ≡ count_by (λ (q : Request). q.barrier || is_flush q.kind) s.accepted = rw unblocked at v.count in
    let push = sum_by_push (λ (q : Request). if q.barrier || is_flush q.kind then 1 else 0) s.accepted r in
    rw (not_open-closing_of r) (omega (arith, old, push))

-- fewer waited than may
accepted-room : (s : SchedState) (r : Request) → IsValid s → can_accept s.queue ≡ true → length (s.queue.waiting ++ entrant s r ∷ []) ≤ s.queue.capacity
accepted-room s r v can =
    let room = (and_parts (is_open s.queue.closing) (not (is_full s.queue)) can).1 in
    let fewer = eqb-false (length s.queue.waiting) s.queue.capacity (not-true (is_full s.queue) room) in
    let n = length_push s.queue.waiting (entrant s r) in
    omega (arith, v.room, fewer, n)

-- ---- the whole

pub accepted-valid : (s : SchedState) (r : Request) → IsValid s → IsAcceptable (seen_of s) r → can_accept s.queue ≡ true → IsValid (accepted s r)
accepted-valid s r v a can =
    let unblocked : is_open s.queue.closing ≡ true = (and_parts (is_open s.queue.closing) (not (is_full s.queue)) can).0 in
    record {
      few = let n = length_push s.accepted r in let f = a.few in omega (arith, n, f);
      ids = accepted-ids s r v a;
      next = let n = length_push s.accepted r in omega (arith, v.next, n);
      waiting = accepted-waiting s r v;
      room = accepted-room s r v can;
      ascending = IsAscending-push (λ (w : Waiting). w.number) s.queue.waiting (entrant s r) v.ascending (waiting-next s v);
      counted = accepted-counted s r v;
      somewhere = accepted-somewhere s r v;
      not_both = accepted-not_both s r v a;
      once = λ i k l g h. v.once i k l (went-before s r v a i k g) (went-before s r v a i l h);
      made = λ k lt. let g = v.made k lt in (g.0, went-keeps s r g.0 k g.1);
      behind_fence = accepted-behind_fence s r v unblocked;
      behind_flush = accepted-behind_flush s r v unblocked;
      fences = accepted-fences s r v a unblocked;
      blocks = accepted-blocks s r v a;
      before_flush = accepted-before_flush s r v a;
      after_flush = accepted-after_flush s r v a;
      epoch_closing = accepted-epoch_closing s r a;
      flush_closing = accepted-flush_closing s r v;
      count = accepted-count s r v unblocked;
    }
