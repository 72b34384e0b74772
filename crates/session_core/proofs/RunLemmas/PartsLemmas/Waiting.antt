-- A caller's step that waits leaves the host, where neither its wait nor the wish to close the transaction is new.
use Rattle.std.specs.Prelude.{◌≡◌, ℕ, ◌+◌, ◌==◌, ◌&&◌, ◌||◌, zero, suc, Bool, true, false, not, List, [], ◌∷◌, length, set, slice_get, slice_index_or, is_none, nat_lt, Option, Some, None, refl, if◌then◌else◌}
use Rattle.std.specs.List.{list_any, filter}
use Rattle.std.proofs.Common.{sym, ap, ◌∙◌}
use Rattle.std.proofs.lemmas.Bool.{true≢false}
use Rattle.page_cache.specs.declared.cached_page.CachedPage.{CachedPage}
use Rattle.host_machine.specs.Causes as causes
use Rattle.host_machine.specs.Causes.{Cause}
use Rattle.host_machine.specs.Host.{Stepped, Goal, AnswerOk, AwaitLastPut, AwaitCommit, unsent_on, goal_of, cause_of, set_wait, wanting, hindrance, hindered, begin, change, plain, set_thread, send_page, end_with, await_durable, await_last_put, await_commit, pursue, walk_pages, continue_begun, stop_of, step_call, step_thread, advance}
use Rattle.host_machine.specs.Model.{Model, Freed}
use Rattle.host_machine.specs.Outcomes as outcomes
use Rattle.host_machine.specs.State.{Ending, Answered, Down, ReadOnly, SessionFull, Begun, Thread, Host, Setup}
use Rattle.commit_actor.specs.Journal.{is_submitted}
use Rattle.flush_actor.specs.Kinds.{is_begun, is_data, is_durable}
use Rattle.flush_actor.specs.Part.{at_limit, flush_above, is_flushed_after, last_put}
use Rattle.flush_actor.specs.Waits.{no_wait}
use Rattle.flush_actor.specs.declared.wait.Wait.{Wait}
use Rattle.session_core.specs.run.parts.Still.{is_still, AreSame}
use Rattle.session_core.proofs.RunLemmas.PartsLemmas.Idling.{test}

-- what is set to what reads as before changes nothing
set_stays : {X : Type 0} (d x : X) (xs : List X) (t : ℕ) → slice_index_or (set xs t x) t d ≡ slice_index_or xs t d → set xs t x ≡ xs
set_stays d x [] t e = refl
set_stays d x (y ∷ ys) zero e = ap (λ z. z ∷ ys) e
set_stays d x (y ∷ ys) (suc t) e = ap (λ l. y ∷ l) (set_stays d x ys t e)

module _ {T V C R : Type 0} (M : Model T V C R) (u : Setup) (full : Bool) (s : Host V C R) (t : ℕ) where
  abbrev Leaves : Stepped V C R → Type 0
  Leaves r = is_still r.step ≡ true → AreSame s r.host t → r.host ≡ s

  module _ (c : C) (rest : List C) where
    ended : (e : Ending R) (h : Host V C R) → Leaves (end_with M u h t c rest e)
    ended (Answered r) h still same = absurd (true≢false (sym still))
    ended Down h still same = absurd (true≢false (sym still))
    ended (ReadOnly id) h still same = absurd (true≢false (sym still))
    ended SessionFull h still same = absurd (true≢false (sym still))

    waits_set : (w : Wait) (cause : Cause) → Leaves (record { host = set_wait M u s t w; step = outcomes.Waiting cause })
    waits_set w cause still same = ap (λ l. record s { journal = record s.journal { flush = record s.journal.flush { waits = l } } }) (set_stays no_wait w s.journal.flush.waits t same.wait)

    wanting_same : (h : Host V C R) → true ≡ h.journal.running.wanted → wanting M u h ≡ h
    wanting_same h e = ap (λ b. record h { journal = record h.journal { running = record h.journal.running { wanted = b } } }) e

    wants : (cause : Cause) → Leaves (record { host = wanting M u s; step = outcomes.Waiting cause })
    wants cause still same = wanting_same s same.wanted

    both_set : (w : Wait) (cause : Cause) → Leaves (record { host = wanting M u (set_wait M u s t w); step = outcomes.Waiting cause })
    both_set w cause still same =
        ap (λ b. record s { journal = record s.journal { flush = record s.journal.flush { waits = set s.journal.flush.waits t w }; running = record s.journal.running { wanted = b } } }) same.wanted
        ∙ ap (λ l. record s { journal = record s.journal { flush = record s.journal.flush { waits = l } } }) (set_stays no_wait w s.journal.flush.waits t same.wait)

    durable : (w : Wait) (id : ℕ) → Leaves (await_durable M u s t c rest w id)
    durable w id =
        test Leaves (list_any (is_flushed_after id) s.journal.flush.taken) _ _ (ended (Answered M.ok) s)
        (test Leaves (at_limit s.journal.flush && not (flush_above id 0 s.journal.flush.notes)) _ _ (ended SessionFull s) (waits_set (record w { need = Some id }) (causes.Durable id)))

    last : (w : Wait) → Leaves (await_last_put M u s t c rest w)
    last w = by (last_put 0 s.journal.flush.notes None)
      where
        goes : Option ℕ → Stepped V C R
        goes x = elim x as (λ _. Stepped V C R) [ None ↦ end_with M u s t c rest (Answered M.ok) | Some id ↦ await_durable M u s t c rest w id ]

        by : (x : Option ℕ) → Leaves (goes x)
        by None = ended (Answered M.ok) s
        by (Some id) = durable w id

    commit : (w : Wait) (k : ℕ) → Leaves (await_commit M u s t c rest w k)
    commit w k =
        test Leaves (is_submitted s.journal k) _ _
        (test Leaves (is_durable w.kind) _ _ (last w) (ended (Answered M.ok) s))
        (test Leaves (at_limit s.journal.flush) _ _ (ended SessionFull s) (λ still same. refl))

    pursues : (w : Wait) (g : Goal) → Leaves (pursue M u s t c rest w g)
    pursues w AnswerOk = ended (Answered M.ok) s
    pursues w AwaitLastPut = last w
    pursues w (AwaitCommit k) = test Leaves (at_limit s.journal.flush) _ _ (ended SessionFull s) (by (k == s.journal.running.number))
      where
        next : Host V C R
        next = set_wait M u s t (record w { target = Some k })

        by : (b : Bool) → Leaves (record { host = if b then wanting M u next else next; step = outcomes.Waiting (cause_of s.journal k) })
        by true = both_set (record w { target = Some k }) (cause_of s.journal k)
        by false = waits_set (record w { target = Some k }) (cause_of s.journal k)

    walks : (w : Wait) (b : Begun) → Leaves (walk_pages M u full s t c rest w b)
    walks w b = by (unsent_on s.pages b.list)
      where
        sent : (next : CachedPage × List (ℕ × ℕ)) → Stepped V C R
        sent next = record {
          host = set_thread M u (send_page M u s next.0 true (is_data b.kind && is_none (unsent_on s.pages next.1))) t (record { calls = c ∷ rest; begun = Some (record b { list = next.1; sent_barrier = b.sent_barrier || (is_data b.kind && is_none (unsent_on s.pages next.1)) }) });
          step = outcomes.Sent (length s.journal.flush.requests);
        }

        goes : Option (CachedPage × List (ℕ × ℕ)) → Stepped V C R
        goes x = elim x as (λ _. Stepped V C R) [
          | None ↦ pursue M u s t c rest w (goal_of s.journal b)
          | Some next ↦ if at_limit s.journal.flush then end_with M u s t c rest SessionFull else if full then record { host = s; step = outcomes.Waiting causes.QueueFull } else sent next
        ]

        by : (x : Option (CachedPage × List (ℕ × ℕ))) → Leaves (goes x)
        by None = pursues w (goal_of s.journal b)
        by (Some next) = test Leaves (at_limit s.journal.flush) _ _ (ended SessionFull s) (test Leaves full _ _ (λ still same. refl) (λ still same. absurd (true≢false (sym still))))

    goes_on : (w : Wait) (b : Begun) → Leaves (continue_begun M u full s t c rest w b)
    goes_on w b = by w.need w.target
      where
        goes : Option ℕ → Option ℕ → Stepped V C R
        goes need target = elim need as (λ _. Stepped V C R) [
          | Some id ↦ await_durable M u s t c rest w id
          | None ↦ elim target as (λ _. Stepped V C R) [ Some k ↦ await_commit M u s t c rest w k | None ↦ walk_pages M u full s t c rest w b ]
        ]

        by : (need target : Option ℕ) → Leaves (goes need target)
        by (Some id) target = durable w id
        by None (Some k) = commit w k
        by None None = walks w b

    hinders : (cause : Cause) → Leaves (record { host = hindered M u s cause; step = outcomes.Waiting cause })
    hinders causes.Closing = λ still same. refl
    hinders (causes.TxFull blocks) = wants (causes.TxFull blocks)
    hinders (causes.Quarantine lacks) = by (nat_lt (length (filter (λ (z : Freed). nat_lt z.transaction s.journal.running.number) (M.zones s.volume).waiting)) lacks)
      where
        by : (b : Bool) → Leaves (record { host = if b then wanting M u s else s; step = outcomes.Waiting (causes.Quarantine lacks) })
        by true = wants (causes.Quarantine lacks)
        by false = λ still same. refl
    hinders (causes.Conflict block holder) = λ still same. refl
    hinders (causes.Commit k) = λ still same. refl
    hinders (causes.Durable id) = λ still same. refl
    hinders causes.QueueFull = λ still same. refl

    plainly : Leaves (plain M u s t c rest)
    plainly = by (hindrance M u s c)
      where
        goes : Option Cause → Stepped V C R
        goes x = elim x as (λ _. Stepped V C R) [
          | Some cause ↦ if at_limit s.journal.flush then end_with M u s t c rest SessionFull else record { host = hindered M u s cause; step = outcomes.Waiting cause }
          | None ↦ end_with M u (change M u s c (M.apply s.volume (length s.history + 1) s.journal.running.number c)) t c rest (Answered (M.apply s.volume (length s.history + 1) s.journal.running.number c).reply)
        ]

        by : (x : Option Cause) → Leaves (goes x)
        by (Some cause) = test Leaves (at_limit s.journal.flush) _ _ (ended SessionFull s) (hinders cause)
        by None = ended (Answered (M.apply s.volume (length s.history + 1) s.journal.running.number c).reply) _

    calls : (b : Option Begun) → Leaves (step_call M u full s t b c rest)
    calls (Some b) = goes_on (slice_index_or s.journal.flush.waits t no_wait) b
    calls None = by (M.reply s.volume c)
      where
        goes : Option R → Stepped V C R
        goes x = elim x as (λ _. Stepped V C R) [
          | Some refusal ↦ end_with M u s t c rest (Answered refusal)
          | None ↦ if is_begun (M.kind c) then begin M u s t c rest else plain M u s t c rest
        ]

        by : (x : Option R) → Leaves (goes x)
        by (Some refusal) = ended (Answered refusal) s
        by None = test Leaves (is_begun (M.kind c)) _ _ (λ still same. absurd (true≢false (sym still))) plainly

  threads : (b : Option Begun) (cs : List C) → Leaves (step_thread M u full s t b cs)
  threads b [] = λ still same. refl
  threads b (c ∷ rest) = by (stop_of M u s.journal.flush.taken (M.kind c))
    where
      goes : Option (Ending R) → Stepped V C R
      goes x = elim x as (λ _. Stepped V C R) [ Some stop ↦ end_with M u s t c rest stop | None ↦ step_call M u full s t b c rest ]

      by : (x : Option (Ending R)) → Leaves (goes x)
      by (Some stop) = ended c rest stop s
      by None = calls c rest b

  pub advance_leaves : Leaves (advance M u full s t)
  advance_leaves = by (slice_get s.threads t)
    where
      goes : Option (Thread C) → Stepped V C R
      goes x = elim x as (λ _. Stepped V C R) [ None ↦ record { host = s; step = outcomes.Ended } | Some th ↦ step_thread M u full s t th.begun th.calls ]

      by : (x : Option (Thread C)) → Leaves (goes x)
      by None = λ still same. refl
      by (Some th) = threads th.begun th.calls
