-- Steps of the commit actor alone bring a transaction that is under way to its commit block.
use Rattle.std.specs.Prelude.{◌≡◌, ℕ, zero, suc, ◌+◌, ◌-◌, ◌≤◌, nat_lt, Bool, true, false, List, [], ◌∷◌, length, replicate, Option, Some, None, refl, if◌then◌else◌}
use Rattle.std.specs.List.{filter, find}
use Rattle.std.proofs.Common.{sym, ap, subst, ◌∙◌, inl, inr, arith}
use Rattle.std.proofs.lemmas.Bool.{cases_Bool, le-ltb, lt-ltb}
use Rattle.log_model.specs.Marks.{Logged}
use Rattle.log_model.specs.Ring.{Ring}
use Rattle.order_model.specs.declared.turn.Turn.TheVariants as turns
use Rattle.page_cache.specs.declared.cached_page.CachedPage.{CachedPage}
use Rattle.tree_model.specs.declared.call.Reply.{Reply}
use Rattle.volume_steps.specs.Now.{VolumeNow}
use Rattle.journal_ring.specs.LogRing.{LogRing, ring_free}
use Rattle.journal_ring.specs.running.Plan.{Planned}
use Rattle.journal_ring.specs.running.Running.{Running, fresh, log_needs}
use Rattle.flush_actor.specs.Part.{is_over, at_limit}
use Rattle.flush_actor.specs.conflicts.Conflicts.{least}
use Rattle.commit_actor.specs.Journal.{Plan, Phase, Idle, Closing, Committing}
use Rattle.host_machine.specs.Host.{Turned, in_phase, submits, send_page, checkpoint, build_plan, plan_sent}
use Rattle.host_machine.specs.State.{Host}
use Rattle.host_machine.specs.laws.PlanNotes.{IsRestOf}
use Rattle.host_machine.specs.laws.Contract.{InPhase, session}
use Rattle.host_machine.specs.runs.Runs.{Commit, stepped, steps}
use Rattle.host_machine.specs.runs.laws.Written.{AreWritten}
use Rattle.minix_host.specs.ByteCalls.{ByteCall}
use Rattle.minix_host.specs.Sessions.{Opening, over, Stands}
use Rattle.system_laws.specs.progress.Commits.{IsUnderWay, wanted, closing, sending, IsThrough, committed, full}
use Rattle.system_laws.proofs.ProgressLemmas.UnsentPages.{is_due, fewer_due}
use Rattle.system_laws.proofs.TransactionSizeLemmas.Hosts.{IsKept, step_kept}
use Rattle.system_laws.proofs.TransactionSizeLemmas.Sets.{HasRoom}

module _ (s : Opening) (log : Ring) (room : HasRoom s.writers) (first : (k : ℕ) → log_needs s.writers (fresh k) ≤ s.quota) (written : AreWritten s.format s.writers) (long : s.quota ≤ log.past - log.first) where
  abbrev H : Type 0
  H = Host VolumeNow ByteCall Reply

  -- what is known of a host whose device told of no cut and no failure
  pub record IsGoing (h : H) : Type 0 where
    pub kept : IsKept s log h
    pub going : is_over h.journal.flush ≡ false

  -- after some steps of the commit actor transaction k is through
  abbrev pub Reaches : H → ℕ → Type 0
  Reaches h k = (n : ℕ) × IsThrough (steps (over s) h (replicate n (Commit false))) k

  -- a step further
  next_of : (h next : H) (k : ℕ) → stepped (over s) h (Commit false) ≡ next → Reaches next k → Reaches h k
  next_of h next k is r = (suc r.0, subst (λ x. IsThrough (steps (over s) x (replicate r.0 (Commit false))) k) (sym is) r.1)

  goes_on : (h next : H) → IsGoing h → stepped (over s) h (Commit false) ≡ next → is_over next.journal.flush ≡ false → IsGoing next
  goes_on h next g is going = subst IsGoing is (record { kept = step_kept s log room first written h (Commit false) g.kept; going = subst (λ (x : H). is_over x.journal.flush ≡ false) (sym is) going })

  module _ (h : H) (g : IsGoing h) where
    -- the step is that of its phase
    phase_step : (phase : Phase) → h.journal.phase ≡ phase → stepped (over s) h (Commit false) ≡ (in_phase (over s).model (over s).setup false h phase).host
    phase_step phase is =
        ap (λ (b : Bool). (if b then record { host = h; turn = turns.Idle } else in_phase (over s).model (over s).setup false h h.journal.phase).host) g.going
        ∙ ap (λ (p : Phase). (in_phase (over s).model (over s).setup false h p).host) is

    -- what is submitted goes out, where the session may have one request more
    goes_out : (out : H) → at_limit h.journal.flush ≡ false → (submits (over s).model (over s).setup false h out).host ≡ out
    goes_out out free = rw free refl

    counted : 1 ≤ h.journal.running.number
    counted = let closed = g.kept.sound.rules.2.images.0.closed in omega (arith, closed)

  -- ---- its log blocks are sent

  pub some_rest : (h : H) → IsGoing h → (p : Plan) → h.journal.phase ≡ Committing p → p.rest ≡ [] → ⊥
  some_rest h g p is none =
      let phase = subst (InPhase (over s) (Stands s) h.history h.cuts (session (over s) (Stands s) g.kept.sound.rules.0 h) h.journal.running.number g.kept.sound.rules.1) is g.kept.sound.rules.2.images.0.in_phase in
      subst (IsRestOf (h.journal.running.number - 1)) none phase.rest

  -- they are all sent, or the session is full
  pub data AreSent (h x : H) : Type 0 where
    all_sent : IsGoing x → x.journal.phase ≡ Idle → x.journal.running ≡ h.journal.running → x.journal.flush.conflicts ≡ h.journal.flush.conflicts → AreSent h x
    at_end : at_limit x.journal.flush ≡ true → AreSent h x

  as_before : (h next x : H) → next.journal.running ≡ h.journal.running → next.journal.flush.conflicts ≡ h.journal.flush.conflicts → AreSent next x → AreSent h x
  as_before h next x same also (all_sent g idle running conflicts) = all_sent g idle (running ∙ same) (conflicts ∙ also)
  as_before h next x same also (at_end e) = at_end e

  abbrev after : ℕ → H → H
  after n h = steps (over s) h (replicate n (Commit false))

  -- so it is for plans of at most so many requests
  abbrev Sends : ℕ → Type 0
  Sends most = (h : H) → IsGoing h → (p : Plan) → h.journal.phase ≡ Committing p → length p.rest ≤ most → (n : ℕ) × AreSent h (after n h)

  module _ (most : ℕ) (rest_sent : Sends most) (h : H) (g : IsGoing h) (p : Plan) (is : h.journal.phase ≡ Committing p) (few : length p.rest ≤ suc most) where
    step_is : (x : Planned) (rest : List Planned) → p.rest ≡ x ∷ rest → at_limit h.journal.flush ≡ false → stepped (over s) h (Commit false) ≡ plan_sent (over s).model (over s).setup h p x rest
    step_is x rest at free =
        phase_step h g (Committing p) is
        ∙ (rw at (goes_out h g (plan_sent (over s).model (over s).setup h p x rest) free))

    send_rest : (rest : List Planned) → p.rest ≡ rest → at_limit h.journal.flush ≡ false → (n : ℕ) × AreSent h (after n h)
    send_rest [] at free = absurd (some_rest h g p is at)
    send_rest (x ∷ []) at free =
        let is_next = step_is x [] at free in
        (1, subst (AreSent h) (sym is_next) (all_sent (goes_on h _ g is_next g.going) refl refl refl))
    send_rest (x ∷ q ∷ qs) at free =
        let next = plan_sent (over s).model (over s).setup h p x (q ∷ qs) in
        let is_next = step_is x (q ∷ qs) at free in
        let size = ap length at in
        let r = rest_sent next (goes_on h next g is_next g.going) (record { rest = q ∷ qs; bodies = p.bodies; revokes = p.revokes; changed = p.changed }) refl (omega (arith, few, size)) in
        (suc r.0, subst (λ x. AreSent h (after r.0 x)) (sym is_next) (as_before h next (after r.0 next) refl refl r.1))

    send_one : (n : ℕ) × AreSent h (after n h)
    send_one = elim (cases_Bool (at_limit h.journal.flush)) [ inl e ↦ (0, at_end e) | inr e ↦ send_rest p.rest refl e ]

  sent_all : (most : ℕ) → Sends most
  sent_all zero h g p is few = absurd (some_rest h g p is (none_left p.rest few))
    where
      none_left : (rest : List Planned) → length rest ≤ 0 → rest ≡ []
      none_left [] low = refl
      none_left (x ∷ rest) low = absurd (omega (arith, low))
  sent_all (suc most) h g p is few = send_one most (λ h g p is few. sent_all most h g p is few) h g p is few

  pub sent_plan : (h : H) → IsGoing h → (p : Plan) → h.journal.phase ≡ Committing p → (n : ℕ) × AreSent h (after n h)
  sent_plan h g p is = sent_all (length p.rest) h g p is (omega arith)

  sent_now : (h : H) → IsGoing h → (p : Plan) → h.journal.phase ≡ Committing p → Reaches h (h.journal.running.number - 1)
  sent_now h g p is = let r = sent_plan h g p is in (r.0, by (after r.0 h) r.1)
    where
      by : (x : H) → AreSent h x → IsThrough x (h.journal.running.number - 1)
      by x (at_end e) = full e
      by x (all_sent going idle running conflicts) =
          let some = counted h g in
          let same = ap (λ (r : Running). r.number) running in
          committed (rw idle (lt-ltb (h.journal.running.number - 1) x.journal.running.number (omega (arith, some, same))))

  -- ---- it is closed

  -- the log has too little room for it
  abbrev is_tight : H → Bool
  is_tight h = nat_lt (ring_free h.journal.ring) (log_needs s.writers h.journal.running)

  -- what is to be sent before: pages of its files, and where the log has too little room what waits for home, and the superblock
  abbrev left_of : H → ℕ
  left_of h = length (filter (is_due h.journal.running.changed) h.pages) + (if is_tight h then length h.journal.ring.homes + 1 else 0)

  module _ (h : H) (g : IsGoing h) (is : h.journal.phase ≡ Closing) where
    -- a step while it is being closed: with the first page of its files that is to be sent, and whether the log has too little room
    abbrev closing_turn : Option CachedPage → Bool → Turned VolumeNow ByteCall Reply
    closing_turn page tight = elim page as (λ _. Turned VolumeNow ByteCall Reply) [
      | Some p ↦ submits (over s).model (over s).setup false h (send_page (over s).model (over s).setup h p true false)
      | None ↦
          if tight then submits (over s).model (over s).setup false h (checkpoint (over s).model (over s).setup h h.journal.ring.homes)
          else record { host = build_plan (over s).model (over s).setup h; turn = turns.Did }
    ]

    closing_step : (page : Option CachedPage) (tight : Bool) → find (is_due h.journal.running.changed) h.pages ≡ page → is_tight h ≡ tight → stepped (over s) h (Commit false) ≡ (closing_turn page tight).host
    closing_step page tight found room =
        phase_step h g Closing is
        ∙ (ap (λ o. (closing_turn o (is_tight h)).host) found ∙ ap (λ t. (closing_turn page t).host) room)

    -- an emptied log has room
    roomy : (ring : LogRing) → ring.places ≡ h.journal.ring.places → ring.used ≡ 0 → nat_lt (ring_free ring) (log_needs s.writers h.journal.running) ≡ false
    roomy ring places used =
        let share = g.kept.share.share in
        let first = ap (λ (r : Ring). r.first) (places ∙ g.kept.share.places) in
        let past = ap (λ (r : Ring). r.past) (places ∙ g.kept.share.places) in
        le-ltb (ring_free ring) (log_needs s.writers h.journal.running) (by share first past)
      where
        by : log_needs s.writers h.journal.running ≤ s.quota → ring.places.first ≡ log.first → ring.places.past ≡ log.past → log_needs s.writers h.journal.running ≤ ring_free ring
        by few first past = omega (arith, few, first, past, used, long)

  -- so it is where at most so much is to be sent before
  abbrev Closes : ℕ → Type 0
  Closes most = (h : H) → IsGoing h → h.journal.phase ≡ Closing → left_of h ≤ most → Reaches h h.journal.running.number

  module _ (most : ℕ) (rest_closed : Closes most) (h : H) (g : IsGoing h) (is : h.journal.phase ≡ Closing) (few : left_of h ≤ suc most) (free : at_limit h.journal.flush ≡ false) where
    page_sent : (p : CachedPage) → find (is_due h.journal.running.changed) h.pages ≡ Some p → Reaches h h.journal.running.number
    page_sent p at =
        let next = send_page (over s).model (over s).setup h p true false in
        let is_next : stepped (over s) h (Commit false) ≡ next = closing_step h g is (Some p) (is_tight h) at refl ∙ goes_out h g next free in
        let fewer = fewer_due h.journal.running.changed h.pages p g.kept.sound.rules.2.images.0.rising at in
        next_of h next h.journal.running.number is_next (rest_closed next (goes_on h next g is_next g.going) is (omega (arith, few, fewer)))

    checked : find (is_due h.journal.running.changed) h.pages ≡ None → is_tight h ≡ true → (homes : List Logged) → h.journal.ring.homes ≡ homes → stepped (over s) h (Commit false) ≡ checkpoint (over s).model (over s).setup h homes
    checked none tight homes at =
        closing_step h g is None true none tight ∙ (goes_out h g (checkpoint (over s).model (over s).setup h h.journal.ring.homes) free ∙ ap (checkpoint (over s).model (over s).setup h) at)

    emptied : find (is_due h.journal.running.changed) h.pages ≡ None → is_tight h ≡ true → (homes : List Logged) → h.journal.ring.homes ≡ homes → Reaches h h.journal.running.number
    emptied none tight [] at =
        let next = checkpoint (over s).model (over s).setup h [] in
        let wide : is_tight next ≡ false = roomy h g is next.journal.ring refl refl in
        let left : length (filter (is_due h.journal.running.changed) h.pages) + (length h.journal.ring.homes + 1) ≤ suc most = rw tight at few in
        next_of h next h.journal.running.number (checked none tight [] at) (rest_closed next (goes_on h next g (checked none tight [] at) g.going) is (rw wide (omega (arith, left))))
    emptied none tight (x ∷ xs) at =
        let next = checkpoint (over s).model (over s).setup h (x ∷ xs) in
        let fewer : length next.journal.ring.homes ≡ length xs = ap (λ (hs : List Logged). length (elim hs as (λ _. List Logged) [ [] ↦ [] | y ∷ ys ↦ ys ])) at in
        let all = ap length at in
        let left : length (filter (is_due h.journal.running.changed) h.pages) + (length h.journal.ring.homes + 1) ≤ suc most = rw tight at few in
        next_of h next h.journal.running.number (checked none tight (x ∷ xs) at) (rest_closed next (goes_on h next g (checked none tight (x ∷ xs) at) g.going) is (rw tight (omega (arith, left, fewer, all))))

  -- where nothing is to be sent before, its log blocks are placed
  planned : (h : H) → IsGoing h → h.journal.phase ≡ Closing → find (is_due h.journal.running.changed) h.pages ≡ None → is_tight h ≡ false → Reaches h h.journal.running.number
  planned h g is none wide =
      let next = build_plan (over s).model (over s).setup h in
      let is_next : stepped (over s) h (Commit false) ≡ next = closing_step h g is None false none wide in
      let same : h.journal.running.number + 1 - 1 ≡ h.journal.running.number = omega arith in
      next_of h next h.journal.running.number is_next (subst (Reaches next) same (sent_now next (goes_on h next g is_next g.going) _ refl))

  closed : (most : ℕ) → Closes most
  closed zero h g is few = by (find (is_due h.journal.running.changed) h.pages) refl (is_tight h) refl
    where
      by : (o : Option CachedPage) → find (is_due h.journal.running.changed) h.pages ≡ o → (b : Bool) → is_tight h ≡ b → Reaches h h.journal.running.number
      by (Some p) at b tight = absurd (let fewer = fewer_due h.journal.running.changed h.pages p g.kept.sound.rules.2.images.0.rising at in omega (arith, few, fewer))
      by None at true tight = absurd (let left : length (filter (is_due h.journal.running.changed) h.pages) + (length h.journal.ring.homes + 1) ≤ 0 = rw tight at few in omega (arith, left))
      by None at false wide = planned h g is at wide
  closed (suc most) h g is few = by (at_limit h.journal.flush) refl (find (is_due h.journal.running.changed) h.pages) refl (is_tight h) refl (λ h g is few. closed most h g is few)
    where
      by : (b : Bool) → at_limit h.journal.flush ≡ b → (o : Option CachedPage) → find (is_due h.journal.running.changed) h.pages ≡ o → (t : Bool) → is_tight h ≡ t → Closes most → Reaches h h.journal.running.number
      by true e o at t tight rest = (0, full e)
      by false e (Some p) at t tight rest = page_sent most rest h g is few e p at
      by false e None at true tight rest = emptied most rest h g is few e at tight h.journal.ring.homes refl
      by false e None at false wide rest = planned h g is at wide

  -- ---- wherever it stands

  -- it runs, and the one before it is through
  from_idle : (h : H) → IsGoing h → h.journal.phase ≡ Idle → h.journal.running.wanted ≡ true → least h.journal.flush.conflicts ≡ None → Reaches h h.journal.running.number
  from_idle h g idle want none =
      let next : H = record h { journal = record h.journal { phase = Closing } } in
      let is_next : stepped (over s) h (Commit false) ≡ next = phase_step h g Idle idle ∙ (rw (want, none) refl) in
      next_of h next h.journal.running.number is_next (closed (left_of next) next (goes_on h next g is_next g.going) refl (omega arith))

  -- some steps, and some more
  more_steps : (n m : ℕ) (h : H) → after m (after n h) ≡ after (n + m) h
  more_steps zero m h = ap (λ n. after n h) (let e : m ≡ 0 + m = omega arith in e)
  more_steps (suc n) m h = more_steps n m (stepped (over s) h (Commit false)) ∙ ap (λ n. after n h) (let e : suc (n + m) ≡ suc n + m = omega arith in e)

  behind : (h : H) (k : ℕ) → h.journal.running.number ≡ k → h.journal.running.wanted ≡ true → least h.journal.flush.conflicts ≡ None → (n : ℕ) → AreSent h (after n h) → Reaches h k
  behind h k number want none n sent = by (after n h) refl sent
    where
      by : (x : H) → after n h ≡ x → AreSent h x → Reaches h k
      by x is (at_end e) = (n, subst (λ x. IsThrough x k) (sym is) (full e))
      by x is (all_sent going idle running conflicts) =
          let r = from_idle x going idle (ap (λ (r : Running). r.wanted) running ∙ want) (ap least conflicts ∙ none) in
          (n + r.0, subst (λ x. IsThrough x k) (ap (after r.0) (sym is) ∙ more_steps n r.0 h) (subst (IsThrough (after r.0 x)) (ap (λ (r : Running). r.number) running ∙ number) r.1))

  pub under_way : (h : H) → IsGoing h → (k : ℕ) → IsUnderWay h k → Reaches h k
  under_way h g k (wanted want none number) = by h.journal.phase refl
    where
      by : (phase : Phase) → h.journal.phase ≡ phase → Reaches h k
      by Idle is = subst (Reaches h) number (from_idle h g is want none)
      by Closing is = subst (Reaches h) number (closed (left_of h) h g is (omega arith))
      by (Committing p) is = let r = sent_plan h g p is in behind h k number want none r.0 r.1
  under_way h g k (closing is number) = subst (Reaches h) number (closed (left_of h) h g is (omega arith))
  under_way h g k (sending p is number) = subst (Reaches h) number (sent_now h g p is)
