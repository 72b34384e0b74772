-- A step of the host that submits nothing is the same where the submission queue is full.
use Rattle.std.proofs.Common.{inl, inr}
use Rattle.std.specs.List.{find, filter}
use Rattle.std.specs.Prelude.{◌≡◌, ℕ, ◌+◌, ◌-◌, ◌&&◌, ◌||◌, ◌⊎◌, Bool, true, false, not, List, [], ◌∷◌, ◌++◌, length, slice_get, slice_index_or, is_none, nat_lt, Option, Some, None, refl, if◌then◌else◌}
use Rattle.order_model.specs.declared.completion.Completion.{Completion}
use Rattle.order_model.specs.declared.request.Kind.TheVariants.{Put, Flush}
use Rattle.order_model.specs.declared.turn.Turn.TheVariants as turns
use Rattle.log_model.specs.Marks.{Logged}
use Rattle.page_cache.specs.Pages.{is_unsent, is_dirty}
use Rattle.page_cache.specs.declared.cached_page.CachedPage.{CachedPage}
use Rattle.host_machine.specs.Causes as causes
use Rattle.host_machine.specs.Host.{Stepped, Turned, unsent_on, goal_of, with_flush, set_thread, send_page, end_with, await_durable, await_commit, pursue, walk_pages, continue_begun, stop_of, step_call, step_thread, advance, submits, build_plan, checkpoint, close_step, plan_sent, in_phase, commit_step, writeback, flush_step}
use Rattle.host_machine.specs.Model.{Model}
use Rattle.host_machine.specs.Outcomes as outcomes
use Rattle.number_sets.specs.Sets.{has}
use Rattle.journal_ring.specs.LogRing.{ring_free}
use Rattle.journal_ring.specs.running.Running.{log_needs}
use Rattle.journal_ring.specs.running.Plan.{Planned}
use Rattle.host_machine.specs.State.{Ending, SessionFull, Begun, Thread, Host, Setup}
use Rattle.commit_actor.specs.Journal.{Plan, Phase, Idle, Closing, Committing, is_submitted}
use Rattle.flush_actor.specs.Kinds.{is_data}
use Rattle.flush_actor.specs.Part.{at_limit, is_over}
use Rattle.flush_actor.specs.Steps.{flush_due, submit_flush}
use Rattle.flush_actor.specs.Waits.{no_wait}
use Rattle.flush_actor.specs.declared.wait.Wait.{Wait}
use Rattle.session_core.specs.run.machine.Fits.{SubmitsOne}

-- two steps by one test
both : {X : Type 0} (P : X → X → Type 0) (b : Bool) (x y z w : X) → P x z → P y w → P (if b then x else y) (if b then z else w)
both P true x y z w h i = h
both P false x y z w h i = i

module _ {V C R : Type 0} (s : Host V C R) where
  -- the step where the queue is full, and where it is not: they are the same, or the second one submits
  pub data Agree {X : Type 0} (host : X → Host V C R) (full open_one : X) : Type 0 where
    Same : full ≡ open_one → Agree host full open_one
    Sent : SubmitsOne s (host open_one) → Agree host full open_one

  -- as one or the other
  pub either_is : {X : Type 0} (host : X → Host V C R) (full open_one : X) → Agree host full open_one → (full ≡ open_one) ⊎ SubmitsOne s (host open_one)
  either_is host full open_one (Same e) = inl e
  either_is host full open_one (Sent h) = inr h

module _ {T V C R : Type 0} (M : Model T V C R) (u : Setup) (s : Host V C R) where
  abbrev Calls : Stepped V C R → Stepped V C R → Type 0
  Calls x y = Agree s (λ (z : Stepped V C R). z.host) x y

  abbrev Turns : Turned V C R → Turned V C R → Type 0
  Turns x y = Agree s (λ (z : Turned V C R). z.host) x y

  -- ---- a caller

  module _ (t : ℕ) (c : C) (rest : List C) where
    walk_agrees : (w : Wait) (b : Begun) → Calls (walk_pages M u true s t c rest w b) (walk_pages M u false s t c rest w b)
    walk_agrees w b = by (unsent_on s.pages b.list)
      where
        sent : (next : CachedPage × List (ℕ × ℕ)) → Stepped V C R
        sent next = record {
          host = set_thread M u (send_page M u s next.0 true (is_data b.kind && is_none (unsent_on s.pages next.1))) t (record { calls = c ∷ rest; begun = Some (record b { list = next.1; sent_barrier = b.sent_barrier || (is_data b.kind && is_none (unsent_on s.pages next.1)) }) });
          step = outcomes.Sent (length s.journal.flush.requests);
        }

        walks : Bool → Option (CachedPage × List (ℕ × ℕ)) → Stepped V C R
        walks full x = elim x as (λ _. Stepped V C R) [
          | None ↦ pursue M u s t c rest w (goal_of s.journal b)
          | Some next ↦ if at_limit s.journal.flush then end_with M u s t c rest SessionFull else if full then record { host = s; step = outcomes.Waiting causes.QueueFull } else sent next
        ]

        by : (x : Option (CachedPage × List (ℕ × ℕ))) → Calls (walks true x) (walks false x)
        by None = Same refl
        by (Some next) =
            both Calls (at_limit s.journal.flush) _ _ _ _ (Same refl)
            (Sent (record { request = record { id = length s.journal.flush.requests; kind = Put next.0.block next.0.body; ordered = true; barrier = is_data b.kind && is_none (unsent_on s.pages next.1) }; more = refl }))

    begun_agrees : (w : Wait) (b : Begun) → Calls (continue_begun M u true s t c rest w b) (continue_begun M u false s t c rest w b)
    begun_agrees w b = by w.need w.target
      where
        goes : Bool → Option ℕ → Option ℕ → Stepped V C R
        goes full need target = elim need as (λ _. Stepped V C R) [
          | Some id ↦ await_durable M u s t c rest w id
          | None ↦ elim target as (λ _. Stepped V C R) [ Some k ↦ await_commit M u s t c rest w k | None ↦ walk_pages M u full s t c rest w b ]
        ]

        by : (need target : Option ℕ) → Calls (goes true need target) (goes false need target)
        by (Some id) target = Same refl
        by None (Some k) = Same refl
        by None None = walk_agrees w b

    call_agrees : (b : Option Begun) → Calls (step_call M u true s t b c rest) (step_call M u false s t b c rest)
    call_agrees (Some b) = begun_agrees (slice_index_or s.journal.flush.waits t no_wait) b
    call_agrees None = Same refl

  thread_agrees : (t : ℕ) (b : Option Begun) (calls : List C) → Calls (step_thread M u true s t b calls) (step_thread M u false s t b calls)
  thread_agrees t b [] = Same refl
  thread_agrees t b (c ∷ rest) = by (stop_of M u s.journal.flush.taken (M.kind c))
    where
      goes : Bool → Option (Ending R) → Stepped V C R
      goes full x = elim x as (λ _. Stepped V C R) [ Some stop ↦ end_with M u s t c rest stop | None ↦ step_call M u full s t b c rest ]

      by : (x : Option (Ending R)) → Calls (goes true x) (goes false x)
      by (Some stop) = Same refl
      by None = call_agrees t c rest b

  pub advance_agrees : (t : ℕ) → Calls (advance M u true s t) (advance M u false s t)
  advance_agrees t = by (slice_get s.threads t)
    where
      goes : Bool → Option (Thread C) → Stepped V C R
      goes full x = elim x as (λ _. Stepped V C R) [ None ↦ record { host = s; step = outcomes.Ended } | Some th ↦ step_thread M u full s t th.begun th.calls ]

      by : (x : Option (Thread C)) → Calls (goes true x) (goes false x)
      by None = Same refl
      by (Some th) = thread_agrees t th.begun th.calls

  -- ---- the actors

  submits_agrees : (out : Host V C R) → SubmitsOne s out → Turns (submits M u true s out) (submits M u false s out)
  submits_agrees out sent = both Turns (at_limit s.journal.flush) _ _ _ _ (Same refl) (Sent sent)

  put : (block : ℕ) (body : List ℕ) (ordered barrier : Bool) (new : Host V C R)
      → new.journal.flush.requests ≡ s.journal.flush.requests ++ record { id = length s.journal.flush.requests; kind = Put block body; ordered = ordered; barrier = barrier } ∷ [] → SubmitsOne s new
  put block body ordered barrier new more = record { request = record { id = length s.journal.flush.requests; kind = Put block body; ordered = ordered; barrier = barrier }; more = more }

  page_put : (p : CachedPage) (ordered : Bool) → SubmitsOne s (send_page M u s p ordered false)
  page_put p ordered = put p.block p.body ordered false (send_page M u s p ordered false) refl

  pub writeback_agrees : (pick : ℕ) → Turns (writeback M u true s pick) (writeback M u false s pick)
  writeback_agrees pick = both Turns (is_over s.journal.flush) _ _ _ _ (Same refl) (by (slice_get (filter (λ (p : CachedPage). is_dirty p.state) s.pages) pick))
    where
      goes : Bool → Option CachedPage → Turned V C R
      goes full x = elim x as (λ _. Turned V C R) [
        | None ↦ record { host = s; turn = turns.Idle }
        | Some p ↦ submits M u full s (send_page M u s p (not (is_submitted s.journal (slice_index_or s.owners p.block 0))) false)
      ]

      by : (x : Option CachedPage) → Turns (goes true x) (goes false x)
      by None = Same refl
      by (Some p) = submits_agrees _ (page_put p (not (is_submitted s.journal (slice_index_or s.owners p.block 0))))

  pub flush_agrees : (next : Option Completion) → Turns (flush_step M u true s next) (flush_step M u false s next)
  flush_agrees next =
      both Turns (flush_due s.journal.flush) _ _ _ _
      (submits_agrees (with_flush M u s (submit_flush s.journal.flush)) (record { request = record { id = length s.journal.flush.requests; kind = Flush; ordered = true; barrier = true }; more = refl })) (Same refl)

  checkpoint_sent : (homes : List Logged) → SubmitsOne s (checkpoint M u s homes)
  checkpoint_sent [] = put u.journal (u.writers.super (u.sequence + (s.journal.running.number - 1)) s.journal.ring.head) true true (checkpoint M u s []) refl
  checkpoint_sent (h ∷ hs) = put h.block h.body true (elim hs as (λ _. Bool) [ [] ↦ true | x ∷ xs ↦ false ]) (checkpoint M u s (h ∷ hs)) refl

  close_agrees : Turns (close_step M u true s) (close_step M u false s)
  close_agrees = by (find (λ p. is_unsent p.state && has s.journal.running.changed p.birth) s.pages)
    where
      goes : Bool → Option CachedPage → Turned V C R
      goes full x = elim x as (λ _. Turned V C R) [
        | Some p ↦ submits M u full s (send_page M u s p true false)
        | None ↦
            if nat_lt (ring_free s.journal.ring) (log_needs u.writers s.journal.running) then submits M u full s (checkpoint M u s s.journal.ring.homes)
            else record { host = build_plan M u s; turn = turns.Did }
      ]

      by : (x : Option CachedPage) → Turns (goes true x) (goes false x)
      by (Some p) = submits_agrees _ (page_put p true)
      by None = both Turns (nat_lt (ring_free s.journal.ring) (log_needs u.writers s.journal.running)) _ _ _ _ (submits_agrees _ (checkpoint_sent s.journal.ring.homes)) (Same refl)

  plan_put : (p : Plan) (first : Planned) (rest : List Planned) → SubmitsOne s (plan_sent M u s p first rest)
  plan_put p first [] = put first.block first.body true first.barrier (plan_sent M u s p first []) refl
  plan_put p first (q ∷ qs) = put first.block first.body true first.barrier (plan_sent M u s p first (q ∷ qs)) refl

  phase_agrees : (phase : Phase) → Turns (in_phase M u true s phase) (in_phase M u false s phase)
  phase_agrees Idle = Same refl
  phase_agrees Closing = close_agrees
  phase_agrees (Committing p) = by p.rest
    where
      goes : Bool → List Planned → Turned V C R
      goes full x = elim x as (λ _. Turned V C R) [ [] ↦ record { host = s; turn = turns.Idle } | first ∷ rest ↦ submits M u full s (plan_sent M u s p first rest) ]

      by : (x : List Planned) → Turns (goes true x) (goes false x)
      by [] = Same refl
      by (first ∷ rest) = submits_agrees _ (plan_put p first rest)

  pub commit_agrees : Turns (commit_step M u true s) (commit_step M u false s)
  commit_agrees = both Turns (is_over s.journal.flush) _ _ _ _ (Same refl) (phase_agrees s.journal.phase)
