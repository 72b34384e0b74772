-- A step of the host at the queues that it has: it is the machine's for these queues, and what it submitted and took is
-- what came to them and left them.
use Rattle.std.proofs.Common.{◌≡◌, ℕ, ◌<◌, ◌≤◌, ◌⊎◌, Bool, true, false, not, List, [], ◌∷◌, ◌++◌, length, drop, Option, Some, None, slice_get, nat_lt, refl, sym, ap, ◌∙◌, arith, append_assoc, append-nil, if◌then◌else◌, ⊎_elim, inl, inr, subst, ap₂}
use Rattle.std.proofs.lemmas.List.{length-append, drop_at, drop_all}
use Rattle.order_model.specs.declared.completion.Completion.{Completion}
use Rattle.order_model.specs.declared.request.Request.{Request}
use Rattle.order_model.specs.declared.turn.Turn.TheVariants as turns
use Rattle.order_model.specs.declared.turn.Turn.{Turn}
use Rattle.order_model.specs.Queue.{ListQueueState}
use Rattle.flush_actor.specs.Part.{at_limit}
use Rattle.flush_actor.specs.Outcomes.{is_queue_full, sent_between, first_since}
use Rattle.flush_actor.specs.Steps.{flush_due, take_completion, submit_flush}
use Rattle.host_machine.specs.Host.{Turned, with_flush, flush_step}
use Rattle.host_machine.specs.Model.{Model}
use Rattle.host_machine.specs.State.{Host, Setup}
use Rattle.session_core.specs.run.machine.Machine.{is_full, left_over}
use Rattle.session_core.specs.run.machine.Fits.{SubmitsOne}
use Rattle.session_core.proofs.RunLemmas.MachineLemmas.FullQueue.{flush_agrees, either_is}
use Rattle.session_core.specs.declared.run.queues.SessionQueues.TheInside.{Inside}
use Rattle.session_core.specs.run.code.Queues.{QueuesNow, with_sent}
use Rattle.session_core.specs.run.code.Fields.{queues_of}

-- ---- what a queue holds

same_behind : {X : Type 0} (taken held more : List X) → taken ++ held ≡ taken ++ more → held ≡ more
same_behind taken held more e = sym (drop_at taken held (length taken) refl) ∙ ap (drop (length taken)) e ∙ drop_at taken more (length taken) refl

-- more was sent, and nothing was taken
pub held_more : {X : Type 0} (q new : ListQueueState X) (more : List X) → q.sent ≡ q.taken ++ q.held → new.sent ≡ new.taken ++ new.held → new.taken ≡ q.taken → new.sent ≡ q.sent ++ more → new.held ≡ q.held ++ more
held_more q new more old_is new_is taken sent =
    same_behind q.taken new.held (q.held ++ more)
    (ap (λ l. l ++ new.held) (sym taken) ∙ sym new_is ∙ sent ∙ ap (λ l. l ++ more) old_is ∙ append_assoc q.taken q.held more)

-- some were taken, and nothing was sent
held_less : {X : Type 0} (q new : ListQueueState X) (out : List X) → q.sent ≡ q.taken ++ q.held → new.sent ≡ new.taken ++ new.held → new.sent ≡ q.sent → new.taken ≡ q.taken ++ out → q.held ≡ out ++ new.held
held_less q new out old_is new_is sent taken =
    same_behind q.taken q.held (out ++ new.held)
    (sym old_is ∙ sym sent ∙ new_is ∙ ap (λ l. l ++ new.held) taken ∙ append_assoc q.taken out new.held)

-- ---- whether the submission queue is full

has_room : (n capacity : ℕ) → not (nat_lt n capacity) ≡ false → n < capacity
has_room n capacity e = grind (arith, e)

has_none : (n capacity : ℕ) → not (nat_lt n capacity) ≡ true → capacity ≤ n
has_none n capacity e = grind (arith, e)

module _ {V C R : Type 0} (step : Bool → Host V C R) (old new : Host V C R) where
  -- one that submits does not do so where the queue is full
  over_full : (n capacity : ℕ) (held after : List Request) → SubmitsOne old (step false) → new ≡ step false → after ≡ held ++ sent_between old.journal.flush new.journal.flush → length after ≤ capacity → capacity ≤ length held → ⊥
  over_full n capacity held after one did is within full =
      let sent : sent_between old.journal.flush new.journal.flush ≡ one.request ∷ [] =
      ap (λ (h : Host V C R). drop (length old.journal.flush.requests) h.journal.flush.requests) did ∙ ap (drop (length old.journal.flush.requests)) one.more
      ∙ drop_at old.journal.flush.requests (one.request ∷ []) (length old.journal.flush.requests) refl in
      let count = ap length is ∙ length-append held (sent_between old.journal.flush new.journal.flush) in
      let more = ap length sent in
      omega (arith, within, full, count, more)

  pub as_queue_is : (full : Bool) (q after : ListQueueState Request) → (step true ≡ step false) ⊎ SubmitsOne old (step false) → new ≡ step full → (full ≡ true → length q.held ≡ q.capacity)
      → after.held ≡ q.held ++ sent_between old.journal.flush new.journal.flush → after.capacity ≡ q.capacity → length after.held ≤ after.capacity → new ≡ step (is_full q.capacity q.held)
  as_queue_is full q after agree did was held same within = by full (is_full q.capacity q.held) did was refl
    where
      by : (full has : Bool) → new ≡ step full → (full ≡ true → length q.held ≡ q.capacity) → not (nat_lt (length q.held) q.capacity) ≡ has → new ≡ step has
      by true true did was e = did
      by false false did was e = did
      by true false did was e = absurd (let less = has_room (length q.held) q.capacity e in let n = was refl in omega (arith, less, n))
      by false true did was e =
          ⊎_elim (λ both. did ∙ sym both)
          (λ one. absurd (over_full 0 q.capacity q.held after.held one did held (let most = within in omega (arith, most, same)) (has_none (length q.held) q.capacity e))) agree

-- ---- the flush actor

get_behind : {X : Type 0} (xs ys : List X) → slice_get (xs ++ ys) (length xs) ≡ slice_get ys 0
get_behind [] ys = refl
get_behind (x ∷ xs) ys = get_behind xs ys

module _ {T V C R : Type 0} (M : Model T V C R) (u : Setup) (full : Bool) (old : Host V C R) where
  -- where a flush is due, no completion is looked at, and none is taken
  due_any : (a b : Option Completion) → flush_due old.journal.flush ≡ true → flush_step M u full old a ≡ flush_step M u full old b
  due_any a b due = rw due refl

  due_taken : (a : Option Completion) → flush_due old.journal.flush ≡ true → (flush_step M u full old a).host.journal.flush.taken ≡ old.journal.flush.taken
  due_taken a due = rw due (by (at_limit old.journal.flush) full)
    where
      turned : Bool → Bool → Turned V C R
      turned limit full = if limit then record { host = old; turn = turns.SessionFull } else if full then record { host = old; turn = turns.QueueFull } else record { host = with_flush M u old (submit_flush old.journal.flush); turn = turns.Did }

      by : (limit full : Bool) → (turned limit full).host.journal.flush.taken ≡ old.journal.flush.taken
      by true full = refl
      by false true = refl
      by false false = refl

  takes : (c : Completion) → flush_due old.journal.flush ≡ false → flush_step M u full old (Some c) ≡ record { host = with_flush M u old (take_completion c old.journal.flush); turn = turns.Did }
  takes c due = rw due refl

  idles : flush_due old.journal.flush ≡ false → flush_step M u full old None ≡ record { host = old; turn = turns.Idle }
  idles due = rw due refl

  -- what it did by the completions taken is what it does by the first one, and that one left
  pub record TookFirst (q after : ListQueueState Completion) (new : Host V C R) : Type 0 where
    pub host : new ≡ (flush_step M u full old (slice_get q.held 0)).host
    pub left : after.held ≡ left_over old.journal.flush q.held

  module _ (q after : ListQueueState Completion) (new : Host V C R) (turn : Turn) where
    took_none : (out : List Completion) → flush_due old.journal.flush ≡ true → out ≡ [] → q.held ≡ out ++ after.held → (next : Option Completion) → new ≡ (flush_step M u full old next).host → TookFirst q after new
    took_none out due none held next did = record {
      host = did ∙ ap (λ (x : Turned V C R). x.host) (due_any next (slice_get q.held 0) due);
      left = ap (λ l. l ++ after.held) (sym none) ∙ sym held ∙ sym (rw due refl);
    }

    -- by what was taken
    took_nothing : flush_due old.journal.flush ≡ false → record { host = new; turn = turn } ≡ flush_step M u full old None → q.held ≡ after.held → (turn ≡ turns.Idle → q.held ≡ []) → TookFirst q after new
    took_nothing due did held empty =
        let is = did ∙ idles due in
        let nothing = empty (ap (λ (x : Turned V C R). x.turn) is) in
        record {
          host = ap (λ (x : Turned V C R). x.host) is ∙ sym (ap (λ l. (flush_step M u full old (slice_get l 0)).host) nothing ∙ ap (λ (x : Turned V C R). x.host) (idles due));
          left = sym held ∙ nothing ∙ sym (rw due (ap (drop 1) nothing));
        }

    took_one : (c : Completion) (cs : List Completion) → flush_due old.journal.flush ≡ false → record { host = new; turn = turn } ≡ flush_step M u full old (Some c) → drop (length old.journal.flush.taken) new.journal.flush.taken ≡ c ∷ cs
        → q.held ≡ (c ∷ cs) ++ after.held → TookFirst q after new
    took_one c cs due did out held =
        let is = did ∙ takes c due in
        let one : drop (length old.journal.flush.taken) new.journal.flush.taken ≡ c ∷ [] =
        ap (λ (x : Turned V C R). drop (length old.journal.flush.taken) x.host.journal.flush.taken) is
        ∙ drop_at old.journal.flush.taken (c ∷ []) (length old.journal.flush.taken) refl in
        let waits = held ∙ ap (λ l. l ++ after.held) (sym out ∙ one) in
        record {
          host = ap (λ (x : Turned V C R). x.host) is ∙ sym (ap (λ l. (flush_step M u full old (slice_get l 0)).host) waits ∙ ap (λ (x : Turned V C R). x.host) (takes c due));
          left = sym (rw due (ap (drop 1) waits));
        }

    took_by : (out : List Completion) → drop (length old.journal.flush.taken) new.journal.flush.taken ≡ out → record { host = new; turn = turn } ≡ flush_step M u full old (slice_get out 0) → q.held ≡ out ++ after.held
        → (turn ≡ turns.Idle → q.held ≡ []) → flush_due old.journal.flush ≡ false → TookFirst q after new
    took_by [] out did held empty due = took_nothing due did held empty
    took_by (c ∷ cs) out did held empty due = took_one c cs due did out held

    took_where : (b : Bool) → flush_due old.journal.flush ≡ b → (out : List Completion) → drop (length old.journal.flush.taken) new.journal.flush.taken ≡ out → record { host = new; turn = turn } ≡ flush_step M u full old (slice_get out 0)
        → q.held ≡ out ++ after.held → (turn ≡ turns.Idle → q.held ≡ []) → TookFirst q after new
    took_where true due out is did held empty =
        took_none out due
        (sym is
        ∙ ap (λ (x : Turned V C R). drop (length old.journal.flush.taken) x.host.journal.flush.taken) did
        ∙ ap (drop (length old.journal.flush.taken)) (due_taken (slice_get out 0) due) ∙ drop_all (length old.journal.flush.taken) old.journal.flush.taken (omega arith))
        held (slice_get out 0) (ap (λ (x : Turned V C R). x.host) did)
    took_where false due out is did held empty = took_by out is did held empty due

    pub took_first : record { host = new; turn = turn } ≡ flush_step M u full old (first_since q.taken after.taken) → after.taken ≡ q.taken ++ drop (length old.journal.flush.taken) new.journal.flush.taken
        → (turn ≡ turns.Idle → q.held ≡ []) → q.sent ≡ q.taken ++ q.held → after.sent ≡ after.taken ++ after.held → after.sent ≡ q.sent → TookFirst q after new
    took_first did taken empty old_is new_is sent =
        let out = drop (length old.journal.flush.taken) new.journal.flush.taken in
        took_where (flush_due old.journal.flush) refl out refl
        (did ∙ ap (flush_step M u full old) (ap (λ l. slice_get l (length q.taken)) taken ∙ get_behind q.taken out))
        (held_less q after out old_is new_is sent taken) empty

-- ---- at the code's fields

-- what a step of the host did to the queues: it was the step for them as they were
pub record Took {V C R : Type 0} (step : Bool → Host V C R) (old new : Host V C R) (q after : QueuesNow) : Type 0 where
  pub host : new ≡ step (is_full q.capacity q.submission)
  pub queues : after ≡ with_sent q (sent_between old.journal.flush new.journal.flush)

module _ {V C R X : Type 0} (host : X → Host V C R) (step : Bool → X) (old new : Host V C R) (full : Bool) where
  either_host : (step true ≡ step false) ⊎ SubmitsOne old (host (step false)) → (host (step true) ≡ host (step false)) ⊎ SubmitsOne old (host (step false))
  either_host agree = ⊎_elim (λ e. inl (ap host e)) (λ one. inr one) agree

  pub took_parts : (i : Inside) (sub : ListQueueState Request) (now : QueuesNow) → queues_of i ≡ now → (step true ≡ step false) ⊎ SubmitsOne old (host (step false)) → new ≡ host (step full) → (full ≡ true → length i.submission.held ≡ i.submission.capacity)
      → sub.sent ≡ i.submission.sent ++ sent_between old.journal.flush new.journal.flush → ◌≡◌ {A = ℕ × List Request} (sub.capacity, sub.taken) (i.submission.capacity, i.submission.taken)
      → i.submission.sent ≡ i.submission.taken ++ i.submission.held → sub.sent ≡ sub.taken ++ sub.held → length sub.held ≤ sub.capacity → Took (λ b. host (step b)) old new now (queues_of (record i { submission = sub }))
  took_parts i sub now view agree did was sent rest old_is new_is within =
      let capacity = ap (λ (x : ℕ × List Request). x.0) rest in
      let held = held_more i.submission sub (sent_between old.journal.flush new.journal.flush) old_is new_is (ap (λ (x : ℕ × List Request). x.1) rest) sent in
      let with_parts : ℕ → List Request → QueuesNow = λ n waits. record {
        capacity = n;
        submission = waits;
        dispatched = i.behind.dispatched;
        kept_command = i.behind.kept;
        completions = i.completions.held;
        kept = i.kept;
      } in
      subst (λ q. Took (λ b. host (step b)) old new q (queues_of (record i { submission = sub }))) view
      (record {
        host = as_queue_is (λ b. host (step b)) old new full i.submission sub (either_host agree) did was held capacity within;
        queues = ap₂ with_parts capacity held;
      })

-- nothing was sent where the host is as it was
pub stayed_parts : {V C R : Type 0} (old new : Host V C R) (i : Inside) (sub : ListQueueState Request) (now : QueuesNow) → new ≡ old → queues_of i ≡ now
    → sub.sent ≡ i.submission.sent ++ sent_between old.journal.flush new.journal.flush → ◌≡◌ {A = ℕ × List Request} (sub.capacity, sub.taken) (i.submission.capacity, i.submission.taken)
    → i.submission.sent ≡ i.submission.taken ++ i.submission.held → sub.sent ≡ sub.taken ++ sub.held → queues_of (record i { submission = sub }) ≡ now
stayed_parts {V = V} {C = C} {R = R} old new i sub now same view sent rest old_is new_is =
    let requests = old.journal.flush.requests in
    let none : sent_between old.journal.flush new.journal.flush ≡ [] =
    ap (λ (h : Host V C R). sent_between old.journal.flush h.journal.flush) same ∙ drop_all (length requests) requests (omega arith) in
    let held = held_more i.submission sub [] old_is new_is (ap (λ (x : ℕ × List Request). x.1) rest) (sent ∙ ap (λ l. i.submission.sent ++ l) none) ∙ append-nil i.submission.held in
    ap (λ (n : ℕ). record (queues_of i) { capacity = n; submission = sub.held }) (ap (λ (x : ℕ × List Request). x.0) rest)
    ∙ ap (λ l. record (queues_of i) { submission = l }) held ∙ view

-- the same of the flush actor, by which a completion leaves
pub record TookFlush {V C R : Type 0} (step : Bool → Option Completion → Host V C R) (old new : Host V C R) (q after : QueuesNow) : Type 0 where
  pub host : new ≡ step (is_full q.capacity q.submission) (slice_get q.completions 0)
  pub queues : after ≡ record (with_sent q (sent_between old.journal.flush new.journal.flush)) { completions = left_over old.journal.flush q.completions }

module _ {T V C R : Type 0} (M : Model T V C R) (u : Setup) (old new : Host V C R) (turn : Turn) where
  pub took_flush : (i : Inside) (sub : ListQueueState Request) (done : ListQueueState Completion) (now : QueuesNow) → queues_of i ≡ now
      → record { host = new; turn = turn } ≡ flush_step M u (is_queue_full turn) old (first_since i.completions.taken done.taken) → (is_queue_full turn ≡ true → length i.submission.held ≡ i.submission.capacity)
      → sub.sent ≡ i.submission.sent ++ sent_between old.journal.flush new.journal.flush → ◌≡◌ {A = ℕ × List Request} (sub.capacity, sub.taken) (i.submission.capacity, i.submission.taken)
      → i.submission.sent ≡ i.submission.taken ++ i.submission.held → sub.sent ≡ sub.taken ++ sub.held → length sub.held ≤ sub.capacity
      → done.taken ≡ i.completions.taken ++ drop (length old.journal.flush.taken) new.journal.flush.taken → (turn ≡ turns.Idle → i.completions.held ≡ []) → ◌≡◌ {A = ℕ × List Completion} (done.capacity, done.sent) (i.completions.capacity, i.completions.sent)
      → i.completions.sent ≡ i.completions.taken ++ i.completions.held → done.sent ≡ done.taken ++ done.held
      → TookFlush (λ b next. (flush_step M u b old next).host) old new now (queues_of (record i { submission = sub; completions = done }))
  took_flush i sub done now view did was sent rest old_is new_is within taken empty done_rest done_old done_new =
      let first = took_first M u (is_queue_full turn) old i.completions done new turn did taken empty done_old done_new (ap (λ (x : ℕ × List Completion). x.1) done_rest) in
      let step : Bool → Turned V C R = λ b. flush_step M u b old (slice_get i.completions.held 0) in
      let took = took_parts (λ (x : Turned V C R). x.host) step old new (is_queue_full turn) i sub (queues_of i) refl (either_is old (λ (x : Turned V C R). x.host) _ _ (flush_agrees M u old (slice_get i.completions.held 0))) first.host was sent rest
      old_is new_is within in
      subst (λ q. TookFlush (λ b next. (flush_step M u b old next).host) old new q (queues_of (record i { submission = sub; completions = done }))) view
      (record { host = took.host; queues = ap (λ (q : QueuesNow). record q { completions = done.held }) took.queues ∙ ap (λ l. record (with_sent (queues_of i) (sent_between old.journal.flush new.journal.flush)) { completions = l }) first.left })
