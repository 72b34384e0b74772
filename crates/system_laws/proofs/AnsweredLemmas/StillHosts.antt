-- Where neither a step of any thread nor one of the commit actor changes anything, all calls have ended.
use Rattle.std.specs.List.{list_any}
use Rattle.std.specs.Prelude.{◌≡◌, ◌⊎◌, ℕ, ◌-◌, ◌<◌, ◌==◌, ◌&&◌, ◌||◌, nat_lt, Bool, true, false, List, [], ◌∷◌, length, is_none, Option, Some, None, slice_get, slice_index_or, set, refl, if◌then◌else◌}
use Rattle.std.proofs.Common.{sym, ap, subst, ◌∙◌, inl, inr, arith}
use Rattle.std.proofs.lemmas.Bool.{cases_Bool, false≢true, both_ways, lt-ltb, ltb-true}
use Rattle.std.proofs.lemmas.Option.{none-some, same_Some}
use Rattle.blk_base.specs.Members.{In}
use Rattle.blk_base.specs.laws.Members.{list_any-In, slice_get-in_range, slice_get-length}
use Rattle.order_model.specs.declared.completion.Completion.TheVariants as completions
use Rattle.page_cache.specs.declared.cached_page.CachedPage.{CachedPage}
use Rattle.flush_actor.specs.Kinds.{is_begun, is_data}
use Rattle.flush_actor.specs.Part.{at_limit, is_flushed_after}
use Rattle.flush_actor.specs.Waits.{no_wait}
use Rattle.flush_actor.specs.conflicts.Conflicts.{least}
use Rattle.flush_actor.specs.declared.wait.Wait.{Wait}
use Rattle.journal_ring.specs.running.Running.{log_needs}
use Rattle.commit_actor.specs.Journal.{Plan, Idle, Closing, Committing, is_closing, is_submitted}
use Rattle.host_machine.specs.Causes as causes
use Rattle.host_machine.specs.Causes.{Cause}
use Rattle.host_machine.specs.Host.{Goal, AwaitCommit, AnswerOk, AwaitLastPut, advance, commit_step, end_with, fits, goal_of, hindrance, pursue, send_page, set_thread, set_wait, unsent_on, walk_pages, wanting}
use Rattle.host_machine.specs.Model.{Model, Freed}
use Rattle.host_machine.specs.State.{Ending, Answered, Begun, Thread, Host, Setup}
use Rattle.call_sessions.specs.promises.Entries.{EndsAt}
use Rattle.system_laws.specs.answered.Rounds.{HaveEnded}
use Rattle.system_laws.specs.progress.Commits.{IsInCall, IsNext, IsUnderWay, wanted, closing, sending, IsHeldBack}
use Rattle.system_laws.proofs.AnsweredLemmas.CallSteps.{EndsOrNeeds, ends, needs_one, durable, last, commit_ends}
use Rattle.system_laws.proofs.ProgressLemmas.BegunSteps.{needs, awaits_commit, sends_pages}
use Rattle.system_laws.proofs.AnsweredLemmas.HostFacts.{Facts, HasNoPlan}
use Rattle.system_laws.proofs.AnsweredLemmas.Drained.{IsDrained}
use Rattle.system_laws.proofs.AnsweredLemmas.DrainedHolds.{some_at, place_within, set_at, lacks, lacks_parts, flush_behind, none_wanted}
use Rattle.system_laws.proofs.AnsweredLemmas.HoldFacts.{wait_of}
use Rattle.system_laws.proofs.AnsweredLemmas.NextSteps.{gate_cases, Done, replies, enters, acted, hinders, splits, lacks_zones}
use Rattle.system_laws.proofs.AnsweredLemmas.StillActor.{pushed_differs, request_differs, ActorWaits, actor_waits}
use Rattle.system_laws.proofs.ProgressLemmas.Targets.{waits_for}

module _ {T V C R : Type 0} (M : Model T V C R) (u : Setup) (h : Host V C R) where
  -- a step that ends a call changes the host
  pub ended_differs : (t : ℕ) (c : C) (rest : List C) (e : Ending R) → (end_with M u h t c rest e).host ≡ h → ⊥
  ended_differs t c rest e same = pushed_differs h.history _ (ap (λ (h : Host V C R). h.history) same)

  -- a step that answers a call, or lets it begin, changes the host
  pub undone : (t : ℕ) (c : C) → (advance M u false h t).host ≡ h → IsNext h t c → Done M u h t c → ⊥
  undone t c still next (replies reply e) =
      let now = subst (λ (x : Host V C R). EndsAt x.history (length h.history) t c (Answered reply)) still e in
      let low = slice_get-length h.history (length h.history) _ now in
      omega (arith, low)
  undone t c still next (enters call) =
      let now = subst (λ (x : Host V C R). IsInCall x t c) still call in
      let one = same_Some now.thread next.thread (sym now.stands ∙ next.stands) in
      none-some now.begun (sym next.unbegun ∙ (sym (ap (λ (th : Thread C). th.begun) one) ∙ now.has_begun))

  wanting_differs : h.journal.running.wanted ≡ false → wanting M u h ≡ h → ⊥
  wanting_differs unwanted same = let no : true ≡ false = ap (λ (h : Host V C R). h.journal.running.wanted) same ∙ unwanted in cc

  module _ (facts : Facts h) where
    below : (t : ℕ) (th : Thread C) → slice_get h.threads t ≡ Some th → t < length h.journal.flush.waits
    below t th at = subst (λ n. t < n) facts.counted (slice_get-length h.threads t th at)

    -- and so does one by which the call says what it needs
    said_differs : (t : ℕ) (c : C) (rest : List C) (x : Host V C R) → EndsOrNeeds M u h t c rest x → t < length h.journal.flush.waits → (wait_of h.journal t).need ≡ None → x ≡ h → ⊥
    said_differs t c rest x (ends is) low none same = ended_differs t c rest (Answered M.ok) (sym is ∙ same)
    said_differs t c rest x (needs_one w id need is) low none same =
        let now : w ≡ wait_of h.journal t = sym (set_at no_wait h.journal.flush.waits t w low) ∙ ap (λ (h : Host V C R). wait_of h.journal t) (sym is ∙ same) in
        none-some id (sym none ∙ (sym (ap (λ (w : Wait). w.need) now) ∙ need))

    -- a thread whose wait passes a test that no thread passes which waits for nothing is in a call
    pub in_call : (test : Wait → Bool) → test no_wait ≡ false → (t : ℕ) → test (wait_of h.journal t) ≡ true → (c : C) × IsInCall h t c
    in_call test fails t passes = let th = slice_get-in_range h.threads t within in by th.0 th.1 th.0.begun refl
      where
        within : t < length h.threads
        within = subst (λ n. t < n) (sym facts.counted) (place_within test no_wait h.journal.flush.waits t fails passes)

        by : (th : Thread C) → slice_get h.threads t ≡ Some th → (o : Option Begun) → th.begun ≡ o → (c : C) × IsInCall h t c
        by th at None is = absurd (both_ways (test no_wait) fails (sym (ap test (facts.idle t th at is)) ∙ passes))
        by th at (Some b) is = let f = facts.first t th b at is in (f.0, record { thread = th; rest = f.1; begun = b; stands = at; calls = f.2; has_begun = is })

    module _ (drained : IsDrained h.journal.flush) (free : at_limit h.journal.flush ≡ false) (idle : h.journal.phase ≡ Idle) (still : (t : ℕ) → (advance M u false h t).host ≡ h) where
      unsent : HasNoPlan h
      unsent p is = let no : Idle ≡ Committing p = sym idle ∙ is in cc

      -- ---- no block is held

      -- a call whose transaction is through says what it needs, or ends
      through_moves : (t : ℕ) (c : C) → IsInCall h t c → (k : ℕ) → (wait_of h.journal t).need ≡ None → (wait_of h.journal t).target ≡ Some k → is_submitted h.journal k ≡ true → ⊥
      through_moves t c call k need target through =
          said_differs t c call.rest (advance M u false h t).host
          (subst (EndsOrNeeds M u h t c call.rest) (sym (awaits_commit M u h t c call facts.going k need target)) (commit_ends M u h t c call.rest free (wait_of h.journal t) k through))
          (below t call.thread call.stands) need (still t)

      abbrev test : Wait → Bool
      test = lacks (is_submitted h.journal)

      none_lacks : list_any test h.journal.flush.waits ≡ false
      none_lacks = elim (cases_Bool (list_any test h.journal.flush.waits)) [
        | inl some ↦
            let t = some_at test no_wait h.journal.flush.waits some in
            let call = in_call test refl t.0 t.1 in
            let parts = lacks_parts (is_submitted h.journal) (wait_of h.journal t.0) t.1 in
            absurd (through_moves t.0 call.0 call.1 parts.1.0 parts.0 parts.1.1 parts.1.2)
        | inr none ↦ none
      ]

      none_held : least h.journal.flush.conflicts ≡ None
      none_held = none_wanted h.journal drained facts.holds facts.going free unsent facts.commits none_lacks

      -- ---- no call has begun

      module _ (unwanted : h.journal.running.wanted ≡ false) (t : ℕ) (c : C) where
        module _ (call : IsInCall h t c) where
          abbrev w : Wait
          w = wait_of h.journal t

          needed : (id : ℕ) → w.need ≡ Some id → ⊥
          needed id need =
              let flush = flush_behind h.journal drained facts.holds facts.going t id need in
              let flushed = list_any-In (is_flushed_after id) h.journal.flush.taken (completions.Flushed flush.0) flush.2 (lt-ltb id flush.0 flush.1) in
              ended_differs t c call.rest (Answered M.ok) (sym (needs M u h t c call facts.going id need ∙ durable M u h t c call.rest w id flushed) ∙ still t)

          targeted : (k : ℕ) → w.need ≡ None → w.target ≡ Some k → ⊥
          targeted k need target = by (waits_for h t k facts.waits target)
            where
              by : IsUnderWay h k ⊎ ((is_submitted h.journal k ≡ true) ⊎ IsHeldBack h k) → ⊥
              by (inl (wanted e none number)) = false≢true (sym unwanted ∙ e)
              by (inl (closing is number)) = let no : Idle ≡ Closing = sym idle ∙ is in cc
              by (inl (sending p is number)) = unsent p is
              by (inr (inl through)) = through_moves t c call k need target through
              by (inr (inr back)) = none-some back.block (sym none_held ∙ back.held)

          module _ (need : w.need ≡ None) (target : w.target ≡ None) where
            aimed : (k : ℕ) (wants : Bool) → (if wants then wanting M u (set_wait M u h t (record w { target = Some k })) else set_wait M u h t (record w { target = Some k })) ≡ h → ⊥
            aimed k wants same = none-some k (sym target ∙ (sym (ap (λ (w : Wait). w.target) (now wants same)) ∙ ap (λ (w : Wait). w.target) (set_at no_wait h.journal.flush.waits t (record w { target = Some k }) (below t call.thread call.stands))))
              where
                now : (wants : Bool) → (if wants then wanting M u (set_wait M u h t (record w { target = Some k })) else set_wait M u h t (record w { target = Some k })) ≡ h → slice_index_or (set h.journal.flush.waits t (record w { target = Some k })) t no_wait ≡ w
                now true same = ap (λ (h : Host V C R). wait_of h.journal t) same
                now false same = ap (λ (h : Host V C R). wait_of h.journal t) same

            pursued : (goal : Goal) → (pursue M u h t c call.rest w goal).host ≡ h → ⊥
            pursued AnswerOk same = ended_differs t c call.rest (Answered M.ok) same
            pursued AwaitLastPut same = said_differs t c call.rest (pursue M u h t c call.rest w AwaitLastPut).host (last M u h t c call.rest free w) (below t call.thread call.stands) need same
            pursued (AwaitCommit k) same =
                let wants = k == h.journal.running.number in
                let is : (pursue M u h t c call.rest w (AwaitCommit k)).host ≡ (if wants then wanting M u (set_wait M u h t (record w { target = Some k })) else set_wait M u h t (record w { target = Some k })) = rw free refl in
                aimed k wants (sym is ∙ same)

            paged : (o : Option (CachedPage × List (ℕ × ℕ))) → unsent_on h.pages call.begun.list ≡ o → (walk_pages M u false h t c call.rest w call.begun).host ≡ h → ⊥
            paged None none same =
                let is : (walk_pages M u false h t c call.rest w call.begun).host ≡ (pursue M u h t c call.rest w (goal_of h.journal call.begun)).host = rw (none, walk_pages) refl in
                pursued (goal_of h.journal call.begun) (sym is ∙ same)
            paged (Some next) some same =
                let is : (walk_pages M u false h t c call.rest w call.begun).host ≡ set_thread M u out t th = rw (some, free, walk_pages) refl in
                request_differs h (set_thread M u out t th) _ refl (sym is ∙ same)
              where
                barrier : Bool
                barrier = is_data call.begun.kind && is_none (unsent_on h.pages next.1)

                out : Host V C R
                out = send_page M u h next.0 true barrier

                th : Thread C
                th = record { calls = c ∷ call.rest; begun = Some (record call.begun { list = next.1; sent_barrier = call.begun.sent_barrier || barrier }) }

          none_begun : ⊥
          none_begun = by w.need refl w.target refl
            where
              by : (o : Option ℕ) → w.need ≡ o → (k : Option ℕ) → w.target ≡ k → ⊥
              by (Some id) need k target = needed id need
              by None need (Some k) target = targeted k need target
              by None need None target = paged need target (unsent_on h.pages call.begun.list) refl (sym (sends_pages M u h t c call facts.going need target) ∙ still t)

        -- ---- no call is next

        module _ (zones : (z : Freed) → In z (M.zones h.volume).waiting → z.transaction ≡ h.journal.running.number) (next : IsNext h t c) where
          abbrev free_zones : ℕ
          free_zones = length (M.zones h.volume).free

          abbrev crowded : Cause
          crowded = causes.TxFull (log_needs u.writers h.journal.running)

          abbrev lacking : Cause
          lacking = causes.Quarantine (M.needs h.volume c - free_zones)

          none_next : ⊥
          none_next = splits M u h t c next facts.going ⊥ (undone t c (still t) next) (λ accepted kind. by accepted kind
              (gate_cases (M.hinders h.volume c) (is_closing h.journal.phase) (fits M u h.journal.running) (nat_lt free_zones (M.needs h.volume c)) crowded lacking (ap is_closing idle)))
            where
              some : nat_lt free_zones (M.needs h.volume c) ≡ true → 0 < M.needs h.volume c - free_zones
              some e = let low = ltb-true free_zones (M.needs h.volume c) e in omega (arith, low)

              by : M.reply h.volume c ≡ None → is_begun (M.kind c) ≡ false → (hindrance M u h c ≡ None) ⊎ ((hindrance M u h c ≡ Some crowded) ⊎ ((hindrance M u h c ≡ Some lacking) × (nat_lt free_zones (M.needs h.volume c) ≡ true))) → ⊥
              by accepted kind (inl opens) = undone t c (still t) next (acted M u h t c next facts.going accepted kind opens)
              by accepted kind (inr (inl e)) = wanting_differs unwanted (sym (hinders M u h t c next facts.going accepted kind free crowded e) ∙ still t)
              by accepted kind (inr (inr e)) = wanting_differs unwanted (sym (hinders M u h t c next facts.going accepted kind free lacking e.0 ∙ lacks_zones M u h t c (M.needs h.volume c - free_zones) (some e.1) zones) ∙ still t)

  -- where no step of a thread or of the commit actor changes anything, all calls have ended
  pub all_ended : Facts h → IsDrained h.journal.flush → at_limit h.journal.flush ≡ false →
      (HasNoPlan h → (z : Freed) → In z (M.zones h.volume).waiting → z.transaction ≡ h.journal.running.number) →
      ((p : Plan) → h.journal.phase ≡ Committing p → p.rest ≡ [] → ⊥) →
      ((t : ℕ) → (advance M u false h t).host ≡ h) → (commit_step M u false h).host ≡ h →
      HaveEnded h
  all_ended facts drained free zones filled still actor t th at = by th.calls refl th.begun refl
    where
      waits : ActorWaits h
      waits = actor_waits M u h free filled facts.going actor

      unwanted : h.journal.running.wanted ≡ false
      unwanted = both h.journal.running.wanted (is_none (least h.journal.flush.conflicts)) waits.stays (ap is_none (none_held facts drained free waits.idle still))
        where
          both : (a b : Bool) → (a && b) ≡ false → b ≡ true → a ≡ false
          both false b e none = refl
          both true b e none = absurd (false≢true (sym e ∙ none))

      by : (cs : List C) → th.calls ≡ cs → (o : Option Begun) → th.begun ≡ o → th.calls ≡ []
      by [] calls o is = calls
      by (c ∷ rest) calls (Some b) is = absurd (none_begun facts drained free waits.idle still unwanted t c (record { thread = th; rest = rest; begun = b; stands = at; calls = calls; has_begun = is }))
      by (c ∷ rest) calls None is = absurd (none_next facts drained free waits.idle still unwanted t c (zones (unsent facts drained free waits.idle still)) (record { thread = th; rest = rest; stands = at; calls = calls; unbegun = is }))
