-- A step of a thread or of the commit actor leaves the host as it is, or lowers what the host has left.
use Rattle.std.specs.List.{find, list_any}
use Rattle.std.specs.Prelude.{◌≡◌, ◌⊎◌, ℕ, ◌+◌, ◌*◌, ◌==◌, ◌&&◌, ◌<◌, ◌≤◌, nat_lt, Bool, true, false, not, List, [], ◌∷◌, length, set, Option, Some, None, is_none, slice_get, slice_index_or, refl, if◌then◌else◌}
use Rattle.std.proofs.Common.{sym, ap, ◌∙◌, inl, inr, arith}
use Rattle.std.proofs.lemmas.Option.{none-some}
use Rattle.blk_base.specs.laws.Members.{slice_get-length}
use Rattle.log_model.specs.Marks.{Logged}
use Rattle.order_model.specs.declared.turn.Turn.TheVariants as turns
use Rattle.page_cache.specs.Pages.{is_unsent}
use Rattle.page_cache.specs.declared.cached_page.CachedPage.{CachedPage}
use Rattle.number_sets.specs.Sets.{has}
use Rattle.flush_actor.specs.Kinds.{is_durable}
use Rattle.flush_actor.specs.Part.{at_limit, is_over, is_flushed_after, flush_above, last_put}
use Rattle.flush_actor.specs.Waits.{no_wait}
use Rattle.flush_actor.specs.conflicts.Conflicts.{least}
use Rattle.flush_actor.specs.declared.wait.Wait.{Wait}
use Rattle.journal_ring.specs.LogRing.{ring_free}
use Rattle.journal_ring.specs.running.Plan.{Planned}
use Rattle.journal_ring.specs.running.Running.{log_needs}
use Rattle.commit_actor.specs.Journal.{Plan, Phase, Idle, Closing, Committing, is_submitted}
use Rattle.host_machine.specs.Host.{Stepped, Turned, Goal, AwaitCommit, AnswerOk, AwaitLastPut, unsent_on, goal_of, set_wait, end_with, await_durable, await_last_put, await_commit, pursue, walk_pages, continue_begun, stop_of, step_call, step_thread, advance, with_flush, with_running, wanting, submits, send_page, build_plan, checkpoint, close_step, plan_sent, in_phase, commit_step}
use Rattle.host_machine.specs.Model.{Model}
use Rattle.host_machine.specs.Outcomes as outcomes
use Rattle.host_machine.specs.State.{Ending, Answered, SessionFull, Begun, Thread, Host, Setup}
use Rattle.host_machine.specs.laws.Choices.{either}
use Rattle.host_machine.proofs.RunsLemmas.Walks.{FreshEnds, call_walk, submits_walk}
use Rattle.system_laws.proofs.AnsweredLemmas.Rounds as rounds
use Rattle.system_laws.proofs.AnsweredLemmas.Rounds.{one_if_none, requests_left, steps_of, unsaid, phase_left, actor_left, host_left, HostLess, less}
use Rattle.system_laws.proofs.AnsweredLemmas.LeftCounts.{put_back, steps_in, steps_set, unsaid_in, unsaid_set, unsaid_less, one_more}

-- what is left of the actor for a transaction that is wanted, or is not
abbrev one_unless : Bool → ℕ
one_unless b = if b then 0 else 1

module _ {T V C R : Type 0} (M : Model T V C R) (u : Setup) (full : Bool) (h : Host V C R) where
  -- the host is the same, or less is left
  abbrev Lowers : Host V C R → Type 0
  Lowers x = (x ≡ h) ⊎ HostLess x h

  abbrev After : Stepped V C R → Type 0
  After x = Lowers x.host

  -- ---- what is wanted

  -- the actor has no more to do than before where the running transaction is wanted
  not_more : actor_left (wanting M u h).journal ≤ actor_left h.journal
  not_more = by h.journal.running.wanted
    where
      by : (x : Bool) → phase_left h.journal.phase + 0 ≤ phase_left h.journal.phase + (if x then 0 else 1)
      by true = omega arith
      by false = omega arith

  wanted : Lowers (wanting M u h)
  wanted = by h.journal.running.wanted refl
    where
      by : (x : Bool) → h.journal.running.wanted ≡ x → Lowers (wanting M u h)
      by true is = inl (ap (λ b. with_running M u h (record h.journal.running { wanted = b })) (sym is))
      by false is =
          let was : one_unless h.journal.running.wanted ≡ 1 = ap one_unless is in
          inr (less (omega arith) (omega (arith, was)))

  -- ---- a thread's first call

  module _ (t : ℕ) (th : Thread C) (at : slice_get h.threads t ≡ Some th) (c : C) (rest : List C) (calls : th.calls ≡ c ∷ rest) where
    -- the thread has a step less to do, and its wait is set anew
    passes : (x : Host V C R) (new : Thread C) (w : Wait) → x.threads ≡ set h.threads t new → steps_in new < steps_in th → x.journal.flush.waits ≡ set h.journal.flush.waits t w →
        requests_left x.journal.flush ≡ requests_left h.journal.flush → actor_left x.journal ≡ actor_left h.journal → Lowers x
    passes x new w threads fewer waits requests actor =
        let sum = steps_set h.threads t th new at in
        let steps = ap steps_of threads in
        let low = unsaid_set h.journal.flush.waits t w in
        let says = ap unsaid waits in
        inr (less (omega (arith, requests)) (omega (arith, sum, steps, low, says, actor, fewer)))

    abbrev done : Thread C
    done = record { calls = rest; begun = None }

    fewer : steps_in done < steps_in th
    fewer = let long = ap length calls in by th.begun long
      where
        by : (o : Option Begun) → length th.calls ≡ length (c ∷ rest) → 2 * length rest + 1 < 2 * length th.calls + one_if_none o
        by None long = omega (arith, long)
        by (Some b) long = omega (arith, long)

    ends : (e : Ending R) → After (end_with M u h t c rest e)
    ends e = passes _ done no_wait refl fewer refl refl refl

    fresh_ends : th.begun ≡ None → FreshEnds M u h t c rest After
    fresh_ends none = record {
      refused = λ why e. ends (Answered why);
      begins = λ accepted kind. passes _ (record { calls = c ∷ rest; begun = Some _ }) (record { kind = M.kind c; target = None; need = None }) refl
          (let long = ap length calls in let first : one_if_none th.begun ≡ 1 = ap one_if_none none in omega (arith, long, first)) refl refl refl;
      full_up = λ why e limit. ends SessionFull;
      rests = λ why. inl refl;
      wants = λ why. wanted;
      acts = λ accepted kind free. passes _ done no_wait refl fewer refl refl refl;
    }

    -- ---- one that has begun

    module _ (alike : length h.threads ≡ length h.journal.flush.waits) where
      abbrev w : Wait
      w = slice_index_or h.journal.flush.waits t no_wait

      said : (v : Wait) → unsaid_in v < unsaid_in w → unsaid (set h.journal.flush.waits t v) < unsaid h.journal.flush.waits
      said v more = let inside = slice_get-length h.threads t th at in unsaid_less no_wait h.journal.flush.waits t v (omega (arith, inside, alike)) more

      needs_first : w.need ≡ None → (id : ℕ) → Lowers (set_wait M u h t (record w { need = Some id }))
      needs_first none id =
          let first : one_if_none w.need ≡ 1 = ap one_if_none none in
          let low = said (record w { need = Some id }) (omega (arith, first)) in
          inr (less (omega arith) (omega (arith, low)))

      needs_still : (id : ℕ) → w.need ≡ Some id → Lowers (set_wait M u h t (record w { need = Some id }))
      needs_still id need =
          inl (ap (λ n. set_wait M u h t (record w { need = n })) (sym need) ∙ ap (λ ws. with_flush M u h (record h.journal.flush { waits = ws })) (put_back no_wait h.journal.flush.waits t))

      durably : (id : ℕ) → Lowers (set_wait M u h t (record w { need = Some id })) → After (await_durable M u h t c rest w id)
      durably id needs =
          either After (list_any (is_flushed_after id) h.journal.flush.taken) _ _ (λ e. ends (Answered M.ok))
          (λ e. either After (at_limit h.journal.flush && not (flush_above id 0 h.journal.flush.notes)) _ _ (λ e. ends SessionFull) (λ e. needs))

      last : w.need ≡ None → After (await_last_put M u h t c rest w)
      last none = by (last_put 0 h.journal.flush.notes None)
        where
          by : (x : Option ℕ) → After (elim x as (λ _. Stepped V C R) [ None ↦ end_with M u h t c rest (Answered M.ok) | Some id ↦ await_durable M u h t c rest w id ])
          by None = ends (Answered M.ok)
          by (Some id) = durably id (needs_first none id)

      commits : w.need ≡ None → (k : ℕ) → After (await_commit M u h t c rest w k)
      commits none k =
          either After (is_submitted h.journal k) _ _ (λ e. either After (is_durable w.kind) _ _ (λ e. last none) (λ e. ends (Answered M.ok)))
          (λ e. either After (at_limit h.journal.flush) _ _ (λ e. ends SessionFull) (λ e. inl refl))

      module _ (no_need : w.need ≡ None) (no_target : w.target ≡ None) where
        targets : (k : ℕ) → After (pursue M u h t c rest w (AwaitCommit k))
        targets k = either After (at_limit h.journal.flush) _ _ (λ e. ends SessionFull) (λ e. by (k == h.journal.running.number))
          where
            by : (x : Bool) → Lowers (if x then wanting M u (set_wait M u h t (record w { target = Some k })) else set_wait M u h t (record w { target = Some k }))
            by true =
                let first : one_if_none w.target ≡ 1 = ap one_if_none no_target in
                let low = said (record w { target = Some k }) (omega (arith, first)) in
                let actor = not_more in
                inr (less (omega arith) (omega (arith, low, actor)))
            by false =
                let first : one_if_none w.target ≡ 1 = ap one_if_none no_target in
                let low = said (record w { target = Some k }) (omega (arith, first)) in
                inr (less (omega arith) (omega (arith, low)))

        reaches : (g : Goal) → After (pursue M u h t c rest w g)
        reaches AnswerOk = ends (Answered M.ok)
        reaches AwaitLastPut = last no_need
        reaches (AwaitCommit k) = targets k

        sends : (b : Begun) → After (walk_pages M u full h t c rest w b)
        sends b = by (unsent_on h.pages b.list) refl
          where
            by : (x : Option (CachedPage × List (ℕ × ℕ))) → unsent_on h.pages b.list ≡ x → After (walk_pages M u full h t c rest w b)
            by None is = rw (is, walk_pages) (reaches (goal_of h.journal b))
            by (Some next) is = rw (is, walk_pages) (either After (at_limit h.journal.flush) _ _ (λ e. ends SessionFull)
                (λ free. either After full _ _ (λ e. inl refl) (λ e. inr (rounds.submits (one_more h.journal.flush.limit h.journal.flush.requests _ free)))))

      goes_on : (b : Begun) → After (continue_begun M u full h t c rest w b)
      goes_on b = by w.need refl
        where
          second : w.need ≡ None → (x : Option ℕ) → w.target ≡ x → After (elim x as (λ _. Stepped V C R) [ Some k ↦ await_commit M u h t c rest w k | None ↦ walk_pages M u full h t c rest w b ])
          second none None e = sends none e b
          second none (Some k) e = commits none k

          by : (x : Option ℕ) → w.need ≡ x → After (elim x as (λ _. Stepped V C R) [
            | Some id ↦ await_durable M u h t c rest w id
            | None ↦ elim w.target as (λ _. Stepped V C R) [ Some k ↦ await_commit M u h t c rest w k | None ↦ walk_pages M u full h t c rest w b ]
          ])
          by None e = second e w.target refl
          by (Some id) e = durably id (needs_still id e)

      called : (begun : Option Begun) → th.begun ≡ begun → After (step_thread M u full h t begun (c ∷ rest))
      called None is = call_walk M u full h t c rest After None (record {
        stopped = λ e stop. ends e;
        goes_on = λ b going e. absurd (none-some b e);
        starts = λ going e. fresh_ends is;
      })
      called (Some b) is = by (stop_of M u h.journal.flush.taken (M.kind c))
        where
          by : (x : Option (Ending R)) → After (elim x as (λ _. Stepped V C R) [ Some stop ↦ end_with M u h t c rest stop | None ↦ step_call M u full h t (Some b) c rest ])
          by None = goes_on b
          by (Some stop) = ends stop

  -- a step of thread t, where as many wait as there are
  pub caller_lowers : length h.threads ≡ length h.journal.flush.waits → (t : ℕ) → ((advance M u full h t).host ≡ h) ⊎ HostLess (advance M u full h t).host h
  caller_lowers alike t = by (slice_get h.threads t) refl
    where
      of_calls : (th : Thread C) → slice_get h.threads t ≡ Some th → (calls : List C) → th.calls ≡ calls → After (step_thread M u full h t th.begun calls)
      of_calls th at [] is = inl refl
      of_calls th at (c ∷ rest) is = called t th at c rest is alike th.begun refl

      by : (x : Option (Thread C)) → slice_get h.threads t ≡ x → After (elim x as (λ _. Stepped V C R) [ None ↦ record { host = h; step = outcomes.Ended } | Some th ↦ step_thread M u full h t th.begun th.calls ])
      by None e = inl refl
      by (Some th) e = of_calls th e th.calls refl

  -- ---- the commit actor

  abbrev Turns : Turned V C R → Type 0
  Turns x = Lowers x.host

  checked : (homes : List Logged) → at_limit h.journal.flush ≡ false → Lowers (checkpoint M u h homes)
  checked [] free = inr (rounds.submits (one_more h.journal.flush.limit h.journal.flush.requests _ free))
  checked (x ∷ xs) free = inr (rounds.submits (one_more h.journal.flush.limit h.journal.flush.requests _ free))

  sent : (p : Plan) (next : Planned) (rest : List Planned) → at_limit h.journal.flush ≡ false → Lowers (plan_sent M u h p next rest)
  sent p next [] free = inr (rounds.submits (one_more h.journal.flush.limit h.journal.flush.requests _ free))
  sent p next (q ∷ qs) free = inr (rounds.submits (one_more h.journal.flush.limit h.journal.flush.requests _ free))

  closes : h.journal.phase ≡ Closing → Turns (close_step M u full h)
  closes is = by (find (λ p. is_unsent p.state && has h.journal.running.changed p.birth) h.pages)
    where
      by : (x : Option CachedPage) → Turns (elim x as (λ _. Turned V C R) [
        | Some p ↦ submits M u full h (send_page M u h p true false)
        | None ↦
            if nat_lt (ring_free h.journal.ring) (log_needs u.writers h.journal.running) then submits M u full h (checkpoint M u h h.journal.ring.homes)
            else record { host = build_plan M u h; turn = turns.Did }
      ])
      by (Some p) = submits_walk M u full h Lowers (inl refl) _ (λ free empty. inr (rounds.submits (one_more h.journal.flush.limit h.journal.flush.requests _ free)))
      by None = either Turns (nat_lt (ring_free h.journal.ring) (log_needs u.writers h.journal.running)) _ _ (λ e. submits_walk M u full h Lowers (inl refl) _ (λ free empty. checked h.journal.ring.homes free))
          (λ e. let was : phase_left h.journal.phase ≡ 2 = ap phase_left is in inr (less (omega arith) (omega (arith, was))))

  phases : (phase : Phase) → h.journal.phase ≡ phase → Turns (in_phase M u full h phase)
  phases Idle is = either Turns (h.journal.running.wanted && is_none (least h.journal.flush.conflicts)) _ _ (λ e. let was : phase_left h.journal.phase ≡ 4 = ap phase_left is in inr (less (omega arith) (omega (arith, was)))) (λ e. inl refl)
  phases Closing is = closes is
  phases (Committing p) is = by p.rest
    where
      by : (x : List Planned) → Turns (elim x as (λ _. Turned V C R) [ [] ↦ record { host = h; turn = turns.Idle } | first ∷ rest ↦ submits M u full h (plan_sent M u h p first rest) ])
      by [] = inl refl
      by (first ∷ rest) = submits_walk M u full h Lowers (inl refl) _ (λ free empty. sent p first rest free)

  -- a step of the commit actor
  pub commit_lowers : ((commit_step M u full h).host ≡ h) ⊎ HostLess (commit_step M u full h).host h
  commit_lowers = either Turns (is_over h.journal.flush) _ _ (λ e. inl refl) (λ e. phases h.journal.phase refl)
