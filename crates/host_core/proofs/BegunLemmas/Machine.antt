-- A step of a begun call on its parts is that of the host.
use Rattle.std.specs.List.{list_any}
use Rattle.std.proofs.Common.{◌≡◌, ℕ, ◌==◌, Bool, true, false, not, ◌&&◌, ◌||◌, List, ◌∷◌, length, Option, Some, None, is_none, if◌then◌else◌, refl}
use Rattle.page_cache.specs.Pages.{put_page, marked}
use Rattle.page_cache.specs.declared.cached_page.CachedPage.{CachedPage}
use Rattle.page_cache.specs.declared.cached_page.PageState.TheVariants.{Firm}
use Rattle.flush_actor.specs.Kinds.{is_data, is_durable}
use Rattle.flush_actor.specs.Part.{at_limit, is_flushed_after, flush_above, last_put}
use Rattle.flush_actor.specs.declared.wait.Wait.{Wait}
use Rattle.commit_actor.specs.Journal.{is_submitted}
use Rattle.host_machine.specs.Causes as causes
use Rattle.host_machine.specs.Host as machine
use Rattle.host_machine.specs.Host.{Stepped, Goal, AwaitCommit, AnswerOk, AwaitLastPut, goal_of, cause_of, unsent_on}
use Rattle.host_machine.specs.Model.{Model}
use Rattle.host_machine.specs.Outcomes as outcomes
use Rattle.host_machine.specs.State as state
use Rattle.host_machine.specs.State.{Host, Setup, Begun}
use Rattle.host_core.specs.begun.Parts.{after_going}
use Rattle.host_core.specs.begun.Steps.{Went, Gone, Answered, Full, Sent, Waits, waiting, wanting, waits_durable, waits_for_put, waits_for_commit, pursues, with_pages, page_out, sends_page, walks, goes_on}

module _ {T V C R : Type 0} (M : Model T V C R) (u : Setup) (s : Host V C R) (t : ℕ) (c : C) (rest : List C) (b : Begun) where
  abbrev after : Gone → Stepped V C R
  after g = after_going M u s t c rest b g

  -- the parts stay
  abbrev ok : Stepped V C R
  ok = machine.end_with M u s t c rest (state.Answered M.ok)

  abbrev full_up : Stepped V C R
  full_up = machine.end_with M u s t c rest state.SessionFull

  durable_is : (w : Wait) (id : ℕ) → after (with_pages s.pages (waits_durable s.journal t w id)) ≡ machine.await_durable M u s t c rest w id
  durable_is w id = by (list_any (is_flushed_after id) s.journal.flush.taken) (at_limit s.journal.flush && not (flush_above id 0 s.journal.flush.notes))
    where
      by : (a d : Bool) → after (with_pages s.pages (if a then record { part = s.journal; progress = Answered } else if d then record { part = s.journal; progress = Full } else record { part = waiting s.journal t (record w { need = Some id }); progress = Waits (causes.Durable id) }))
          ≡ (if a then ok else if d then full_up else record { host = machine.set_wait M u s t (record w { need = Some id }); step = outcomes.Waiting (causes.Durable id) })
      by true d = refl
      by false true = refl
      by false false = refl

  put_is : (w : Wait) → after (with_pages s.pages (waits_for_put s.journal t w)) ≡ machine.await_last_put M u s t c rest w
  put_is w = by (last_put 0 s.journal.flush.notes None)
    where
      by : (o : Option ℕ) → after (with_pages s.pages (elim o as (λ _. Went) [ None ↦ record { part = s.journal; progress = Answered } | Some id ↦ waits_durable s.journal t w id ]))
          ≡ elim o as (λ _. Stepped V C R) [ None ↦ ok | Some id ↦ machine.await_durable M u s t c rest w id ]
      by None = refl
      by (Some id) = durable_is w id

  commit_is : (w : Wait) (k : ℕ) → after (with_pages s.pages (waits_for_commit s.journal t w k)) ≡ machine.await_commit M u s t c rest w k
  commit_is w k = by (is_submitted s.journal k) (is_durable w.kind) (at_limit s.journal.flush)
    where
      by : (a d l : Bool) → after (with_pages s.pages (if a then if d then waits_for_put s.journal t w else record { part = s.journal; progress = Answered }
          else if l then record { part = s.journal; progress = Full } else record { part = s.journal; progress = Waits (cause_of s.journal k) }))
          ≡ (if a then if d then machine.await_last_put M u s t c rest w else ok
          else if l then full_up else record { host = s; step = outcomes.Waiting (cause_of s.journal k) })
      by true true l = put_is w
      by true false l = refl
      by false d true = refl
      by false d false = refl

  pursue_is : (w : Wait) (g : Goal) → after (with_pages s.pages (pursues s.journal t w g)) ≡ machine.pursue M u s t c rest w g
  pursue_is w AnswerOk = refl
  pursue_is w AwaitLastPut = put_is w
  pursue_is w (AwaitCommit k) = by (at_limit s.journal.flush) (k == s.journal.running.number)
    where
      next : Wait
      next = record w { target = Some k }

      by : (l r : Bool) → after (with_pages s.pages (if l then record { part = s.journal; progress = Full }
          else record { part = if r then wanting (waiting s.journal t (record w { target = Some k })) else waiting s.journal t (record w { target = Some k }); progress = Waits (cause_of s.journal k) }))
          ≡ (if l then full_up else record {
            host = if r then machine.wanting M u (machine.set_wait M u s t (record w { target = Some k })) else machine.set_wait M u s t (record w { target = Some k });
            step = outcomes.Waiting (cause_of s.journal k);
          })
      by true r = refl
      by false true = refl
      by false false = refl

  send_is : (full : Bool) (next : CachedPage × List (ℕ × ℕ)) → after (sends_page full s.journal s.pages b next)
      ≡ (if at_limit s.journal.flush then full_up
      else if full then record { host = s; step = outcomes.Waiting causes.QueueFull }
      else
      let barrier = is_data b.kind && is_none (unsent_on s.pages next.1) in
      record {
        host = machine.set_thread M u (machine.send_page M u s next.0 true barrier) t (record { calls = c ∷ rest; begun = Some (record b { list = next.1; sent_barrier = b.sent_barrier || barrier }) });
        step = outcomes.Sent (length s.journal.flush.requests);
      })
  send_is full next = by (at_limit s.journal.flush) full
    where
      barrier : Bool
      barrier = is_data b.kind && is_none (unsent_on s.pages next.1)

      by : (l q : Bool) → after (if l then record { part = s.journal; pages = s.pages; progress = Full }
          else if q then record { part = s.journal; pages = s.pages; progress = Waits causes.QueueFull }
          else record { part = page_out s.journal next.0 barrier; pages = put_page s.pages (marked next.0 Firm); progress = Sent (length s.journal.flush.requests) next.1 (b.sent_barrier || barrier) })
          ≡ (if l then full_up
          else if q then record { host = s; step = outcomes.Waiting causes.QueueFull }
          else record {
            host = machine.set_thread M u (machine.send_page M u s next.0 true barrier) t (record { calls = c ∷ rest; begun = Some (record b { list = next.1; sent_barrier = b.sent_barrier || barrier }) });
            step = outcomes.Sent (length s.journal.flush.requests);
          })
      by true q = refl
      by false true = refl
      by false false = refl

  walk_is : (full : Bool) (w : Wait) → after (walks full s.journal s.pages t w b) ≡ machine.walk_pages M u full s t c rest w b
  walk_is full w = by (unsent_on s.pages b.list)
    where
      by : (o : Option (CachedPage × List (ℕ × ℕ))) → after (elim o as (λ _. Gone) [ None ↦ with_pages s.pages (pursues s.journal t w (goal_of s.journal b)) | Some next ↦ sends_page full s.journal s.pages b next ])
          ≡ elim o as (λ _. Stepped V C R) [
            | None ↦ machine.pursue M u s t c rest w (goal_of s.journal b)
            | Some next ↦
                if at_limit s.journal.flush then full_up
                else if full then record { host = s; step = outcomes.Waiting causes.QueueFull }
                else
                let barrier = is_data b.kind && is_none (unsent_on s.pages next.1) in
                record {
                  host = machine.set_thread M u (machine.send_page M u s next.0 true barrier) t (record { calls = c ∷ rest; begun = Some (record b { list = next.1; sent_barrier = b.sent_barrier || barrier }) });
                  step = outcomes.Sent (length s.journal.flush.requests);
                }
          ]
      by None = pursue_is w (goal_of s.journal b)
      by (Some next) = send_is full next

  pub going_is : (full : Bool) (w : Wait) → after (goes_on full s.journal s.pages t w b) ≡ machine.continue_begun M u full s t c rest w b
  going_is full w = by w.need w.target
    where
      by : (need target : Option ℕ) → after (elim need as (λ _. Gone) [
        | Some id ↦ with_pages s.pages (waits_durable s.journal t w id)
        | None ↦ elim target as (λ _. Gone) [ Some k ↦ with_pages s.pages (waits_for_commit s.journal t w k) | None ↦ walks full s.journal s.pages t w b ]
      ]) ≡ elim need as (λ _. Stepped V C R) [
        | Some id ↦ machine.await_durable M u s t c rest w id
        | None ↦ elim target as (λ _. Stepped V C R) [ Some k ↦ machine.await_commit M u s t c rest w k | None ↦ machine.walk_pages M u full s t c rest w b ]
      ]
      by (Some id) target = durable_is w id
      by None (Some k) = commit_is w k
      by None None = walk_is full w
