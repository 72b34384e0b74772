-- A scheduler that accepted nothing is valid, and a dispatch keeps what a scheduler keeps.
use Rattle.std.specs.Prelude.{◌≡◌, ℕ, ◌+◌, ◌<◌, ◌≤◌, ◌==◌, ◌||◌, ◌&&◌, not, ◌⊎◌, Bool, true, false, List, [], ◌∷◌, ◌++◌, length, count_by, nat_lt, Option, Some, None, IsTrue, slice_get, refl, if◌then◌else◌}
use Rattle.std.specs.List.{list_all}
use Rattle.std.proofs.Common.{ap, sym, subst, ◌∙◌, inl, inr, ⊎_elim, arith}
use Rattle.std.proofs.lemmas.Bool.{cases_Bool, false≢true, both_ways, and_parts, and_from, and_cases, or_left, or_cases, or_parts, cases_lt, cases_eq, not-true, not-false, eq-eqb, eqb-true, lt-ltb}
use Rattle.std.proofs.lemmas.Option.{none-some, same_Some}
use Rattle.std.proofs.lemmas.List.{length_push}
use Rattle.std.proofs.lemmas.List.Edits.{length-remove}
use Rattle.std.proofs.lemmas.List.Sums.{sum_by_push}
use Rattle.blk_base.specs.Members.{In, IsAscending}
use Rattle.blk_base.specs.laws.Members.{IsAscending-filter, remove-ascending, In-slice_get, In-filter, In-list_any, none-list_any, all-list_all, slice_get-push, slice_get-push_left, slice_get-push_cases, slice_get-In}
use Rattle.order_model.specs.declared.command.Command.{Command}
use Rattle.order_model.specs.declared.request.Kind.{Kind}
use Rattle.order_model.specs.declared.request.Kind.TheVariants.{Put, Flush}
use Rattle.order_model.specs.declared.request.Request.{Request}
use Rattle.order_model.specs.OrderClosed.{is_flush, kind_block, IsPutOf, IsFence, IsFlushAt}
use Rattle.order_model.specs.laws.ArrivalLaws.{In-without, without-In}
use Rattle.schedulers.specs.declared.reassign.closing.Closing.{Closing}
use Rattle.schedulers.specs.declared.reassign.closing.Closing.TheVariants as closings
use Rattle.schedulers.specs.reassign.Epoch.{Waiting, is_open, is_barrier_closing, have_one_block, stands_before, may_leave, eligible, without, waits_ordered, leaves_flagged, picked}
use Rattle.order_model.specs.Single.{command_of_request}
use Rattle.schedulers.specs.reassign.Sched.{SchedState, opened, sent, dispatched}
use Rattle.schedulers.specs.reassign.laws.Valid.{Went, IsPassed, StandsFor, IsEpochClosing, IsFlushClosing, IsValid}
use Rattle.schedulers.specs.reassign.laws.WentLaws.{is_flush_closing, went-length, is_flush-true, true-is_flush, holds_at, at_holds, holds-length, holds-push_left, same_waiting, command-id}

-- ---- nothing accepted

pub opened-valid : (limit capacity : ℕ) → IsValid (opened limit capacity)
opened-valid limit capacity =
    let s = opened limit capacity in
    record {
      few = omega arith;
      ids = λ i j p q e f d. absurd (none-some p e);
      next = refl;
      waiting = λ w h. absurd h;
      room = omega arith;
      ascending = tt;
      counted = refl;
      somewhere = λ i lt. absurd (omega (arith, lt));
      not_both = λ w k h g. absurd h;
      once = λ i k l g h. absurd (none-some g.request g.accepted);
      made = λ k lt. absurd (omega (arith, lt));
      behind_fence = λ w b h o f p. absurd h;
      behind_flush = λ w b h f p. absurd h;
      fences = λ b f p. absurd f;
      blocks = λ i j l block lt p q g. absurd (none-some g.request g.accepted);
      before_flush = λ i f l lt p g. absurd p;
      after_flush = λ f j l lt p g. absurd p;
      epoch_closing = λ e. absurd (false≢true (ap is_barrier_closing e));
      flush_closing = λ e. absurd (false≢true (ap is_flush_closing e));
      count = refl;
    }

-- ---- what closes the queue

barrier_closing : (c : Closing) → is_barrier_closing c ≡ true → (c ≡ closings.Barrier) × (is_open c ≡ false)
barrier_closing closings.Open h = absurd (false≢true h)
barrier_closing closings.Barrier h = (refl, refl)
barrier_closing closings.Flush h = absurd (false≢true h)

pub only_one : {X : Type 0} (xs : List X) (x y : X) → length xs ≡ 1 → In x xs → In y xs → x ≡ y
only_one [] x y n h i = absurd h
only_one (z ∷ []) x y n (inl e) (inl f) = sym e ∙ f
only_one (z ∷ []) x y n (inl e) (inr i) = absurd i
only_one (z ∷ []) x y n (inr h) i = absurd h
only_one (z ∷ u ∷ us) x y n h i = absurd (omega (arith, n))

-- a flush leaves where nothing else waits
flush_alone : (s : SchedState) (u w : Waiting) → In u s.queue.waiting → In w s.queue.waiting → may_leave s.queue.waiting w ≡ true → is_flush w.request.kind ≡ true → u ≡ w
flush_alone s u w h i may flush =
    let n : (length s.queue.waiting == 1) ≡ true = rw flush at may in
    only_one s.queue.waiting u w (eqb-true (length s.queue.waiting) 1 n) h i

-- a put leaves where no earlier put of its block waits
pub put_first : (s : SchedState) (u w : Waiting) → In u s.queue.waiting → may_leave s.queue.waiting w ≡ true → is_flush w.request.kind ≡ false → stands_before u w ≡ false
put_first s u w h may put =
    let all : list_all (λ x. not (stands_before x w)) s.queue.waiting ≡ true = rw put at may in
    not-true (stands_before u w) (all-list_all (λ x. not (stands_before x w)) s.queue.waiting u all h)

-- what leaves with the flag: a flush, or the last that is order-preserving while a barrier closes the queue
pub flag_cases : (s : SchedState) (w : Waiting) → leaves_flagged s.queue w ≡ true → (is_flush w.request.kind ≡ true) ⊎ ((is_barrier_closing s.queue.closing ≡ true) × (waits_ordered (without w.number s.queue.waiting) ≡ false))
flag_cases s w h =
    ⊎_elim
    inl
    (λ p.
    let a = and_parts (is_barrier_closing s.queue.closing) (w.request.ordered && not (waits_ordered (without w.number s.queue.waiting))) p in
    let b = and_parts w.request.ordered (not (waits_ordered (without w.number s.queue.waiting))) a.1 in
    inr (a.0, not-true (waits_ordered (without w.number s.queue.waiting)) b.1))
    (or_cases (is_flush w.request.kind) (is_barrier_closing s.queue.closing && (w.request.ordered && not (waits_ordered (without w.number s.queue.waiting)))) h)

-- a put that leaves with the flag is order-preserving, and nothing else that is so waits
pub flagged_last : (s : SchedState) (w : Waiting) → leaves_flagged s.queue w ≡ true → is_flush w.request.kind ≡ false
    → (w.request.ordered ≡ true) × ((u : Waiting) → In u (without w.number s.queue.waiting) → u.request.ordered ≡ false)
flagged_last s w h put =
    let rest = without w.number s.queue.waiting in
    ⊎_elim
    (λ flush. absurd (both_ways (is_flush w.request.kind) put flush))
    (λ p.
    let a = and_parts (is_barrier_closing s.queue.closing) (w.request.ordered && not (waits_ordered rest)) p in
    let b = and_parts w.request.ordered (not (waits_ordered rest)) a.1 in
    (b.0, λ u i. none-list_any (λ (x : Waiting). x.request.ordered) rest u (not-true (waits_ordered rest) b.1) i))
    (or_cases (is_flush w.request.kind) (is_barrier_closing s.queue.closing && (w.request.ordered && not (waits_ordered rest))) h)

-- what is left of those that wait
pub stays : (s : SchedState) (u w : Waiting) → In u s.queue.waiting → (u.number ≡ w.number → ⊥) → In u (without w.number s.queue.waiting)
stays s u w h n = without-In (λ (v : Waiting). v.number) w.number s.queue.waiting u h n

pub stayed : (s : SchedState) (u w : Waiting) → In u (without w.number s.queue.waiting) → In u s.queue.waiting × (u.number ≡ w.number → ⊥)
stayed s u w h = In-without (λ (v : Waiting). v.number) w.number s.queue.waiting u h

-- ---- what went

-- a request that waits, and may leave
record Leaves (s : SchedState) (w : Waiting) : Type 0 where
  valid : IsValid s
  there : In w s.queue.waiting
  may : may_leave s.queue.waiting w ≡ true

went-keeps : (s : SchedState) (w : Waiting) (i k : ℕ) → Went s i k → Went (sent s (Some w)) i k
went-keeps s w i k g = record {
  request = g.request;
  flagged = g.flagged;
  accepted = g.accepted;
  sent = slice_get-push_left s.sent_out (command_of_request w.request (leaves_flagged s.queue w)) k (went-length s i k g).1 ∙ g.sent;
  flag = g.flag;
}

went-last : (s : SchedState) (w : Waiting) → Leaves s w → Went (sent s (Some w)) w.number (length s.sent_out)
went-last s w v =
    let f = v.valid.waiting w v.there in
    let flagged = leaves_flagged s.queue w in
    let same : command_of_request w.request flagged ≡ command_of_request f.request flagged = ap (λ q. command_of_request q flagged) f.same in
    record {
      request = f.request;
      flagged = flagged;
      accepted = f.taken;
      sent = slice_get-push s.sent_out (command_of_request w.request flagged) ∙ ap Some same;
      flag = λ t.
          let flush : is_flush w.request.kind ≡ true = ap (λ (q : Request). is_flush q.kind) f.same ∙ t in
          or_left (is_flush w.request.kind) (is_barrier_closing s.queue.closing && (w.request.ordered && not (waits_ordered (without w.number s.queue.waiting)))) flush;
    }

went-cases : (s : SchedState) (w : Waiting) → Leaves s w → (i k : ℕ) → Went (sent s (Some w)) i k → Went s i k ⊎ ((i ≡ w.number) × (k ≡ length s.sent_out))
went-cases s w v i k g =
    let flagged = leaves_flagged s.queue w in
    ⊎_elim
    (λ old. inl (record { request = g.request; flagged = g.flagged; accepted = g.accepted; sent = old; flag = g.flag }))
    (λ new.
    let f = v.valid.waiting w v.there in
    let id : w.request.id ≡ g.request.id = command-id w.request g.request flagged g.flagged new.1 in
    inr (v.valid.ids i w.number g.request f.request g.accepted f.taken (sym id ∙ ap (λ (q : Request). q.id) f.same), new.0))
    (slice_get-push_cases s.sent_out (command_of_request w.request flagged) k (command_of_request g.request g.flagged) g.sent)

-- ---- the parts

length-without : (ws : List Waiting) (w : Waiting) → IsAscending (λ (u : Waiting). u.number) ws → In w ws → length (without w.number ws) + 1 ≡ length ws
length-without ws w a h =
    let at = In-slice_get ws w h in
    let n = length-remove ws at.0 at.1 in
    let same = ap length (remove-ascending (λ (u : Waiting). u.number) ws at.0 w a at.2) in
    omega (arith, n, same)

sent-counted : (s : SchedState) (w : Waiting) → Leaves s w → length (sent s (Some w)).sent_out + length (without w.number s.queue.waiting) ≡ length s.accepted
sent-counted s w v =
    let m = length_push s.sent_out (command_of_request w.request (leaves_flagged s.queue w)) in
    let n = length-without s.queue.waiting w v.valid.ascending v.there in
    omega (arith, m, n, v.valid.counted)

sent-somewhere : (s : SchedState) (w : Waiting) → Leaves s w → (i : ℕ) → i < length s.accepted → ((u : Waiting) × In u (without w.number s.queue.waiting) × (u.number ≡ i)) ⊎ ((k : ℕ) × Went (sent s (Some w)) i k)
sent-somewhere s w v i lt =
    ⊎_elim
    (λ u.
    ⊎_elim
    (λ e. inr (length s.sent_out, subst (λ j. Went (sent s (Some w)) j (length s.sent_out)) (sym e ∙ u.2) (went-last s w v)))
    (λ n. inl (u.0, stays s u.0 w u.1 n, u.2))
    (cases_eq u.0.number w.number))
    (λ g. inr (g.0, went-keeps s w i g.0 g.1))
    (v.valid.somewhere i lt)

sent-not_both : (s : SchedState) (w : Waiting) → Leaves s w → (u : Waiting) (k : ℕ) → In u (without w.number s.queue.waiting) → Went (sent s (Some w)) u.number k → ⊥
sent-not_both s w v u k h g =
    let was = stayed s u w h in
    ⊎_elim
    (λ old. v.valid.not_both u k was.0 old)
    (λ new. was.1 new.0)
    (went-cases s w v u.number k g)

sent-once : (s : SchedState) (w : Waiting) → Leaves s w → (i k l : ℕ) → Went (sent s (Some w)) i k → Went (sent s (Some w)) i l → k ≡ l
sent-once s w v i k l g h =
    ⊎_elim
    (λ a.
    ⊎_elim
    (λ b. v.valid.once i k l a b)
    (λ b. absurd (v.valid.not_both w k v.there (subst (λ j. Went s j k) b.0 a)))
    (went-cases s w v i l h))
    (λ a.
    ⊎_elim
    (λ b. absurd (v.valid.not_both w l v.there (subst (λ j. Went s j l) a.0 b)))
    (λ b. a.1 ∙ sym b.1)
    (went-cases s w v i l h))
    (went-cases s w v i k g)

sent-made : (s : SchedState) (w : Waiting) → Leaves s w → (k : ℕ) → k < length (sent s (Some w)).sent_out → (i : ℕ) × Went (sent s (Some w)) i k
sent-made s w v k lt =
    ⊎_elim
    (λ old. let g = v.valid.made k old in (g.0, went-keeps s w g.0 k g.1))
    (λ last.
    let n = length_push s.sent_out (command_of_request w.request (leaves_flagged s.queue w)) in
    let e : length s.sent_out ≡ k = omega (arith, lt, last, n) in
    (w.number, subst (λ l. Went (sent s (Some w)) w.number l) e (went-last s w v)))
    (cases_lt k (length s.sent_out))

-- a fence is passed as before, or by what leaves with the flag
passed-cases : (s : SchedState) (w : Waiting) (b : ℕ) → IsPassed (sent s (Some w)) b → IsPassed s b ⊎ (leaves_flagged s.queue w ≡ true)
passed-cases s w b passed =
    ⊎_elim
    (λ lt. inl (inl lt))
    (λ free.
    elim (cases_Bool (leaves_flagged s.queue w)) [
      | inl t ↦ inr t
      | inr f ↦ inl (inr (rw f at free))
    ])
    passed

sent-behind_fence : (s : SchedState) (w : Waiting) → Leaves s w → (u : Waiting) (b : ℕ) → In u (without w.number s.queue.waiting) → u.request.ordered ≡ true → IsFence s.accepted b → IsPassed (sent s (Some w)) b → b < u.number
sent-behind_fence s w v u b h o fence passed =
    let was = stayed s u w h in
    ⊎_elim
    (λ p. v.valid.behind_fence u b was.0 o fence p)
    (λ flagged.
    ⊎_elim
    (λ flush. absurd (was.1 (ap (λ (x : Waiting). x.number) (flush_alone s u w was.0 v.there v.may flush))))
    (λ c. absurd (both_ways u.request.ordered (none-list_any (λ (x : Waiting). x.request.ordered) (without w.number s.queue.waiting) u c.1 h) o))
    (flag_cases s w flagged))
    (passed-cases s w b passed)

-- the last that was accepted is no flush while a barrier closes the queue
last_put : (s : SchedState) (b : ℕ) → IsValid s → is_barrier_closing s.queue.closing ≡ true → IsFlushAt s.accepted b → b + 1 < length s.accepted
last_put s b v c flush =
    let e = v.epoch_closing (barrier_closing s.queue.closing c).0 in
    let near = holds-length (λ (q : Request). q.kind ≡ Flush) s.accepted b flush in
    ⊎_elim
    (λ lt. lt)
    (λ past.
    let same : b ≡ e.place = omega (arith, near, past, e.last) in
    let kind : e.request.kind ≡ Flush = at_holds (λ (q : Request). q.kind ≡ Flush) (slice_get s.accepted b) e.request (ap (λ n. slice_get s.accepted n) same ∙ e.at) flush in
    absurd (both_ways (is_flush e.request.kind) e.put (true-is_flush e.request.kind kind)))
    (cases_lt (b + 1) (length s.accepted))

sent-behind_flush : (s : SchedState) (w : Waiting) → Leaves s w → (u : Waiting) (b : ℕ) → In u (without w.number s.queue.waiting) → IsFlushAt s.accepted b → IsPassed (sent s (Some w)) b → b < u.number
sent-behind_flush s w v u b h flush passed =
    let was = stayed s u w h in
    ⊎_elim
    (λ p. v.valid.behind_flush u b was.0 flush p)
    (λ flagged.
    ⊎_elim
    (λ alone. absurd (was.1 (ap (λ (x : Waiting). x.number) (flush_alone s u w was.0 v.there v.may alone))))
    (λ c. v.valid.behind_flush u b was.0 flush (inl (last_put s b v.valid c.0 flush)))
    (flag_cases s w flagged))
    (passed-cases s w b passed)

-- an older command stands for an older fence
old_fence : (s : SchedState) (w : Waiting) → Leaves s w → (b : ℕ) → IsFence s.accepted b → IsPassed s b → (p : ℕ) × StandsFor (sent s (Some w)) b p
old_fence s w v b fence passed =
    let old = v.valid.fences b fence passed in
    let command = command_of_request w.request (leaves_flagged s.queue w) in (
      old.0,
      record {
        barrier = holds-push_left (λ (c : Command). IsTrue c.barrier) s.sent_out command old.0 old.1.barrier;
        before = λ i k le o g.
            ⊎_elim
            (λ was. old.1.before i k le o was)
            (λ new.
            let f = v.valid.waiting w v.there in
            let keeps : w.request.ordered ≡ true = ap (λ (q : Request). q.ordered) f.same ∙ at_holds (λ (q : Request). IsTrue q.ordered) (slice_get s.accepted i) f.request (ap (λ n. slice_get s.accepted n) new.0 ∙ f.taken) o in
            let late = v.valid.behind_fence w b v.there keeps fence passed in
            absurd (omega (arith, late, le, new.0)))
            (went-cases s w v i k g);
        after = λ j l lt g.
            ⊎_elim
            (λ was. old.1.after j l lt was)
            (λ new.
            let near = holds-length (λ (c : Command). IsTrue c.barrier) s.sent_out old.0 old.1.barrier in
            omega (arith, near, new.1))
            (went-cases s w v j l g);
      },
    )

-- what leaves with the flag stands for the fence that was accepted last
new_fence : (s : SchedState) (w : Waiting) → Leaves s w → (b : ℕ) → leaves_flagged s.queue w ≡ true → length s.accepted ≤ b + 1 → StandsFor (sent s (Some w)) b (length s.sent_out)
new_fence s w v b flagged last =
    let command = command_of_request w.request (leaves_flagged s.queue w) in
    record {
      barrier = holds_at (λ (c : Command). IsTrue c.barrier) (slice_get (s.sent_out ++ command ∷ []) (length s.sent_out)) command (slice_get-push s.sent_out command) flagged;
      before = λ i k le o g.
          let near = (went-length (sent s (Some w)) i k g).1 in
          let n = length_push s.sent_out command in
          omega (arith, near, n);
      after = λ j l lt g.
          let near = (went-length (sent s (Some w)) j l g).0 in
          absurd (omega (arith, near, lt, last));
    }

sent-fences : (s : SchedState) (w : Waiting) → Leaves s w → (b : ℕ) → IsFence s.accepted b → IsPassed (sent s (Some w)) b → (p : ℕ) × StandsFor (sent s (Some w)) b p
sent-fences s w v b fence passed =
    ⊎_elim
    (λ p. old_fence s w v b fence p)
    (λ flagged.
    ⊎_elim
    (λ lt. old_fence s w v b fence (inl lt))
    (λ last. (length s.sent_out, new_fence s w v b flagged last))
    (cases_lt (b + 1) (length s.accepted)))
    (passed-cases s w b passed)

-- ---- the order of puts of one block, and at a flush

one_block : (k l : Kind) (block : ℕ) → kind_block k ≡ Some block → kind_block l ≡ Some block → have_one_block k l ≡ true
one_block (Put a body) (Put b other) block e f = eq-eqb a b (same_Some a block e ∙ sym (same_Some b block f))
one_block (Put a body) Flush block e f = absurd (none-some block f)
one_block Flush l block e f = absurd (none-some block e)

block_put : (k : Kind) (block : ℕ) → kind_block k ≡ Some block → is_flush k ≡ false
block_put (Put a body) block e = refl
block_put Flush block e = absurd (none-some block e)

-- the block of a put that waits
waiting_block : (s : SchedState) (w : Waiting) (i block : ℕ) → IsValid s → In w s.queue.waiting → w.number ≡ i → IsPutOf s.accepted i block → kind_block w.request.kind ≡ Some block
waiting_block s w i block v h e p =
    let f = v.waiting w h in
    let at : slice_get s.accepted i ≡ Some f.request = ap (λ n. slice_get s.accepted n) (sym e) ∙ f.taken in
    let kind : kind_block f.request.kind ≡ Some block = rw at at p in
    ap (λ (q : Request). kind_block q.kind) f.same ∙ kind

waiting_flush : (s : SchedState) (w : Waiting) (i : ℕ) → IsValid s → In w s.queue.waiting → w.number ≡ i → IsFlushAt s.accepted i → is_flush w.request.kind ≡ true
waiting_flush s w i v h e flush =
    let f = v.waiting w h in
    let at : slice_get s.accepted i ≡ Some f.request = ap (λ n. slice_get s.accepted n) (sym e) ∙ f.taken in
    let kind = at_holds (λ (q : Request). q.kind ≡ Flush) (slice_get s.accepted i) f.request at flush in
    ap (λ (q : Request). is_flush q.kind) f.same ∙ true-is_flush f.request.kind kind

-- went before what leaves now
before_last : (s : SchedState) (w : Waiting) (i l : ℕ) → l ≡ length s.sent_out → (k : ℕ) × Went s i k → (k : ℕ) × Went (sent s (Some w)) i k × (k < l)
before_last s w i l e g =
    let near = (went-length s i g.0 g.1).1 in
    (g.0, went-keeps s w i g.0 g.1, omega (arith, near, e))

earlier : (s : SchedState) (w : Waiting) (i l : ℕ) → (k : ℕ) × Went s i k × (k < l) → (k : ℕ) × Went (sent s (Some w)) i k × (k < l)
earlier s w i l h = (h.0, went-keeps s w i h.0 h.1, h.2)

sent-blocks : (s : SchedState) (w : Waiting) → Leaves s w → (i j l block : ℕ) → i < j → IsPutOf s.accepted i block → IsPutOf s.accepted j block → Went (sent s (Some w)) j l → (k : ℕ) × Went (sent s (Some w)) i k × (k < l)
sent-blocks s w v i j l block lt p q g =
    ⊎_elim
    (λ was. earlier s w i l (v.valid.blocks i j l block lt p q was))
    (λ new.
    let near = (went-length (sent s (Some w)) j l g).0 in
    let mine = waiting_block s w j block v.valid v.there (sym new.0) q in
    before_last s w i l new.1
    (⊎_elim
    (λ u.
    let first = put_first s u.0 w u.1 v.may (block_put w.request.kind block mine) in
    let lower : nat_lt u.0.number w.number ≡ true = lt-ltb u.0.number w.number (omega (arith, u.2, new.0, lt)) in
    let same = one_block u.0.request.kind w.request.kind block (waiting_block s u.0 i block v.valid u.1 u.2 p) mine in
    absurd (both_ways (stands_before u.0 w) first (and_from (nat_lt u.0.number w.number) (have_one_block u.0.request.kind w.request.kind) lower same)))
    (λ k. k)
    (v.valid.somewhere i (omega (arith, lt, near)))))
    (went-cases s w v j l g)

sent-before_flush : (s : SchedState) (w : Waiting) → Leaves s w → (i f l : ℕ) → i < f → IsFlushAt s.accepted f → Went (sent s (Some w)) f l → (k : ℕ) × Went (sent s (Some w)) i k × (k < l)
sent-before_flush s w v i f l lt flush g =
    ⊎_elim
    (λ was. earlier s w i l (v.valid.before_flush i f l lt flush was))
    (λ new.
    let near = (went-length (sent s (Some w)) f l g).0 in
    let mine = waiting_flush s w f v.valid v.there (sym new.0) flush in
    before_last s w i l new.1
    (⊎_elim
    (λ u.
    let same = ap (λ (x : Waiting). x.number) (flush_alone s u.0 w u.1 v.there v.may mine) in
    absurd (omega (arith, same, u.2, new.0, lt)))
    (λ k. k)
    (v.valid.somewhere i (omega (arith, lt, near)))))
    (went-cases s w v f l g)

sent-after_flush : (s : SchedState) (w : Waiting) → Leaves s w → (f j l : ℕ) → f < j → IsFlushAt s.accepted f → Went (sent s (Some w)) j l → (k : ℕ) × Went (sent s (Some w)) f k × (k < l)
sent-after_flush s w v f j l lt flush g =
    ⊎_elim
    (λ was. earlier s w f l (v.valid.after_flush f j l lt flush was))
    (λ new.
    let near = (went-length (sent s (Some w)) j l g).0 in
    before_last s w f l new.1
    (⊎_elim
    (λ u.
    let late = v.valid.behind_flush u.0 f u.1 flush (inl (omega (arith, lt, near))) in
    absurd (omega (arith, late, u.2)))
    (λ k. k)
    (v.valid.somewhere f (omega (arith, lt, near)))))
    (went-cases s w v j l g)

-- ---- what closes the queue afterwards

-- the queue is closed where something leaves with the flag
flagged-closed : (s : SchedState) (w : Waiting) → Leaves s w → leaves_flagged s.queue w ≡ true → is_open s.queue.closing ≡ false
flagged-closed s w v flagged =
    ⊎_elim
    (λ flush.
    elim (cases_Bool (is_open s.queue.closing)) [
      | inl free ↦
          let f = v.valid.waiting w v.there in
          let kind : f.request.kind ≡ Flush = is_flush-true f.request.kind (ap (λ (q : Request). is_flush q.kind) (sym f.same) ∙ flush) in
          let at : IsFlushAt s.accepted w.number = holds_at (λ (q : Request). q.kind ≡ Flush) (slice_get s.accepted w.number) f.request f.taken kind in
          let late = v.valid.behind_flush w w.number v.there at (inr free) in
          absurd (omega (arith, late))
      | inr closed ↦ closed
    ])
    (λ c. (barrier_closing s.queue.closing c.0).1)
    (flag_cases s w flagged)

abbrev closing_after : SchedState → Waiting → Closing
closing_after s w = if leaves_flagged s.queue w then closings.Open else s.queue.closing

-- while the queue stays closed, what left had no flag
still_closed : (s : SchedState) (w : Waiting) → is_open (closing_after s w) ≡ false → leaves_flagged s.queue w ≡ false
still_closed s w h =
    elim (cases_Bool (leaves_flagged s.queue w)) [
      | inl t ↦ absurd (false≢true (sym (rw t at h)))
      | inr f ↦ f
    ]

-- while a barrier closes the queue, something else that is order-preserving waits where one leaves without the flag
other_ordered : (s : SchedState) (w : Waiting) → Leaves s w → is_barrier_closing s.queue.closing ≡ true → leaves_flagged s.queue w ≡ false → (u : Waiting) × In u (without w.number s.queue.waiting) × (u.request.ordered ≡ true)
other_ordered s w v c plain =
    let e = v.valid.epoch_closing (barrier_closing s.queue.closing c).0 in
    let rest = without w.number s.queue.waiting in
    let p = or_parts (is_flush w.request.kind) (is_barrier_closing s.queue.closing && (w.request.ordered && not (waits_ordered rest))) plain in
    ⊎_elim
    (λ n. absurd (both_ways (is_barrier_closing s.queue.closing) n c))
    (λ q.
    ⊎_elim
    (λ orderless.
    let apart : e.waiting.number ≡ w.number → ⊥ = λ n.
    both_ways w.request.ordered orderless (ap (λ (x : Waiting). x.request.ordered) (sym (same_waiting s e.waiting w v.valid e.there v.there n)) ∙ e.ordered) in
    (e.waiting, stays s e.waiting w e.there apart, e.ordered))
    (λ more. In-list_any (λ (x : Waiting). x.request.ordered) rest (not-false (waits_ordered rest) more))
    (and_cases w.request.ordered (not (waits_ordered rest)) q))
    (and_cases (is_barrier_closing s.queue.closing) (w.request.ordered && not (waits_ordered rest)) p.1)

sent-epoch_closing : (s : SchedState) (w : Waiting) → Leaves s w → closing_after s w ≡ closings.Barrier → IsEpochClosing (sent s (Some w))
sent-epoch_closing s w v e =
    let plain = still_closed s w (ap is_open e) in
    let was : s.queue.closing ≡ closings.Barrier = rw plain at e in
    let old = v.valid.epoch_closing was in
    let other = other_ordered s w v (ap is_barrier_closing was) plain in
    record {
      waiting = other.0;
      there = other.1;
      ordered = other.2;
      place = old.place;
      request = old.request;
      last = old.last;
      at = old.at;
      barrier = old.barrier;
      put = old.put;
    }

sent-flush_closing : (s : SchedState) (w : Waiting) → Leaves s w → closing_after s w ≡ closings.Flush → IsFlushClosing (sent s (Some w))
sent-flush_closing s w v e =
    let plain = still_closed s w (ap is_open e) in
    let was : s.queue.closing ≡ closings.Flush = rw plain at e in
    let old = v.valid.flush_closing was in
    let put = (or_parts (is_flush w.request.kind) (is_barrier_closing s.queue.closing && (w.request.ordered && not (waits_ordered (without w.number s.queue.waiting)))) plain).0 in
    let apart : old.waiting.number ≡ w.number → ⊥ = λ n.
    both_ways (is_flush w.request.kind) put (ap (λ (x : Waiting). is_flush x.request.kind) (sym (same_waiting s old.waiting w v.valid old.there v.there n)) ∙ old.flush) in
    record {
      waiting = old.waiting;
      there = stays s old.waiting w old.there apart;
      flush = old.flush;
      last = old.last;
    }

count-step : (flagged : Bool) (c : Closing) (before after all : ℕ) → after ≡ before + (if flagged then 1 else 0) → before + (if not (is_open c) then 1 else 0) ≡ all → (flagged ≡ true → is_open c ≡ false) → after + (if not (is_open (if flagged then closings.Open else c)) then 1 else 0) ≡ all
count-step true c before after all push old closed =
    let was : before + 1 ≡ all = rw (closed refl) at old in
    omega (arith, push, was)
count-step false c before after all push old closed =
    let same : after ≡ before = omega (arith, push) in
    rw same old

sent-count : (s : SchedState) (w : Waiting) → Leaves s w → count_by (λ (c : Command). c.barrier) (sent s (Some w)).sent_out + (if not (is_open (closing_after s w)) then 1 else 0) ≡ count_by (λ (r : Request). r.barrier || is_flush r.kind) s.accepted
sent-count s w v =
    let push = sum_by_push (λ (c : Command). if c.barrier then 1 else 0) s.sent_out (command_of_request w.request (leaves_flagged s.queue w)) in
    count-step (leaves_flagged s.queue w) s.queue.closing _ _ _ push v.valid.count (flagged-closed s w v)

-- ---- the whole

pub sent-valid : (s : SchedState) (w : Waiting) → IsValid s → In w s.queue.waiting → may_leave s.queue.waiting w ≡ true → IsValid (sent s (Some w))
sent-valid s w valid there may =
    let v : Leaves s w = record { valid = valid; there = there; may = may } in
    record {
      few = valid.few;
      ids = valid.ids;
      next = valid.next;
      waiting = λ u h. valid.waiting u (stayed s u w h).0;
      room = let n = length-without s.queue.waiting w valid.ascending there in let most = valid.room in omega (arith, n, most);
      ascending = IsAscending-filter (λ (u : Waiting). u.number) (λ u. not (u.number == w.number)) s.queue.waiting valid.ascending;
      counted = sent-counted s w v;
      somewhere = sent-somewhere s w v;
      not_both = sent-not_both s w v;
      once = sent-once s w v;
      made = sent-made s w v;
      behind_fence = sent-behind_fence s w v;
      behind_flush = sent-behind_flush s w v;
      fences = sent-fences s w v;
      blocks = sent-blocks s w v;
      before_flush = sent-before_flush s w v;
      after_flush = sent-after_flush s w v;
      epoch_closing = sent-epoch_closing s w v;
      flush_closing = sent-flush_closing s w v;
      count = sent-count s w v;
    }

sent_option-valid : (s : SchedState) (o : Option Waiting) → IsValid s → ((w : Waiting) → o ≡ Some w → In w s.queue.waiting × (may_leave s.queue.waiting w ≡ true)) → IsValid (sent s o)
sent_option-valid s None v h = v
sent_option-valid s (Some w) v h = let p = h w refl in sent-valid s w v p.0 p.1

-- what is picked waits, and may leave
pub picked-leaves : (s : SchedState) (pick : ℕ) (w : Waiting) → picked s.queue pick ≡ Some w → In w s.queue.waiting × (may_leave s.queue.waiting w ≡ true)
picked-leaves s pick w e =
    In-filter (may_leave s.queue.waiting) s.queue.waiting w (slice_get-In (eligible s.queue.waiting) pick w e)

pub dispatched-valid : (s : SchedState) (pick : ℕ) → IsValid s → IsValid (dispatched s pick)
dispatched-valid s pick v =
    sent_option-valid s (picked s.queue pick) v (picked-leaves s pick)
