-- Only a caller's step makes an entry, or changes a thread.
use Rattle.std.specs.List.{find}
use Rattle.std.specs.Prelude.{◌≡◌, ℕ, ◌&&◌, Bool, true, false, not, List, [], ◌∷◌, slice_index_or, is_none, nat_lt, Option, Some, None, refl, if◌then◌else◌}
use Rattle.number_sets.specs.Sets.{has}
use Rattle.order_model.specs.declared.completion.Completion.{Completion}
use Rattle.order_model.specs.declared.turn.Turn.TheVariants as turns
use Rattle.log_model.specs.Marks.{Logged}
use Rattle.page_cache.specs.Pages.{is_unsent, dirty_page}
use Rattle.page_cache.specs.declared.cached_page.CachedPage.{CachedPage}
use Rattle.flush_actor.specs.conflicts.Conflicts.{least}
use Rattle.journal_ring.specs.LogRing.{ring_free}
use Rattle.journal_ring.specs.running.Running.{log_needs}
use Rattle.journal_ring.specs.running.Plan.{Planned}
use Rattle.flush_actor.specs.Part.{at_limit, is_over}
use Rattle.flush_actor.specs.Steps.{flush_due}
use Rattle.commit_actor.specs.Journal.{Plan, Phase, Idle, Closing, Committing, is_submitted}
use Rattle.host_machine.specs.laws.Choices.{either}
use Rattle.host_machine.specs.Host.{Turned, send_page, submits, build_plan, checkpoint, close_step, plan_sent, in_phase, commit_step, writeback, flush_step, take_step}
use Rattle.host_machine.specs.Model.{Model}
use Rattle.host_machine.specs.State.{Host, Setup}

-- the same entries, and threads
pub record SameCalls {V C R : Type 0} (old new : Host V C R) : Type 0 where
  pub history : new.history ≡ old.history
  pub threads : new.threads ≡ old.threads

module _ {T V C R : Type 0} (M : Model T V C R) (u : Setup) (s : Host V C R) where
  same : SameCalls s s
  same = record { history = refl; threads = refl }

  abbrev Quiet : Turned V C R → Type 0
  Quiet x = SameCalls s x.host

  submits_quiet : (full : Bool) (out : Host V C R) → SameCalls s out → Quiet (submits M u full s out)
  submits_quiet full out next = either Quiet (at_limit s.journal.flush) _ _ (λ e. same) (λ d. either Quiet full _ _ (λ e. same) (λ e. next))

  pub writeback_quiet : (full : Bool) (pick : ℕ) → Quiet (writeback M u full s pick)
  writeback_quiet full pick = either Quiet (is_over s.journal.flush) _ _ (λ e. same) (λ e. by (dirty_page s.pages pick))
    where
      by : (x : Option CachedPage) → Quiet (elim x as (λ _. Turned V C R) [
        | None ↦ record { host = s; turn = turns.Idle }
        | Some p ↦ submits M u full s (send_page M u s p (not (is_submitted s.journal (slice_index_or s.owners p.block 0))) false)
      ])
      by None = same
      by (Some p) = submits_quiet full _ (record { history = refl; threads = refl })

  pub take_quiet : (next : Option Completion) → Quiet (take_step M u s next)
  take_quiet None = same
  take_quiet (Some c) = record { history = refl; threads = refl }

  pub flush_quiet : (full : Bool) (next : Option Completion) → Quiet (flush_step M u full s next)
  flush_quiet full next = either Quiet (flush_due s.journal.flush) _ _ (λ e. submits_quiet full _ (record { history = refl; threads = refl })) (λ e. take_quiet next)

  checkpoint_quiet : (homes : List Logged) → SameCalls s (checkpoint M u s homes)
  checkpoint_quiet [] = record { history = refl; threads = refl }
  checkpoint_quiet (h ∷ hs) = record { history = refl; threads = refl }

  close_quiet : (full : Bool) → Quiet (close_step M u full s)
  close_quiet full = by (find (λ p. is_unsent p.state && has s.journal.running.changed p.birth) s.pages)
    where
      by : (x : Option CachedPage) → Quiet (elim x as (λ _. Turned V C R) [
        | Some p ↦ submits M u full s (send_page M u s p true false)
        | None ↦
            if nat_lt (ring_free s.journal.ring) (log_needs u.writers s.journal.running) then submits M u full s (checkpoint M u s s.journal.ring.homes)
            else record { host = build_plan M u s; turn = turns.Did }
      ])
      by (Some p) = submits_quiet full _ (record { history = refl; threads = refl })
      by None =
          either Quiet (nat_lt (ring_free s.journal.ring) (log_needs u.writers s.journal.running)) _ _
          (λ d. submits_quiet full _ (checkpoint_quiet s.journal.ring.homes))
          (λ d. record { history = refl; threads = refl })

  plan_quiet : (p : Plan) (first : Planned) (rest : List Planned) → SameCalls s (plan_sent M u s p first rest)
  plan_quiet p first [] = record { history = refl; threads = refl }
  plan_quiet p first (q ∷ qs) = record { history = refl; threads = refl }

  phase_quiet : (full : Bool) (phase : Phase) → Quiet (in_phase M u full s phase)
  phase_quiet full Idle = either Quiet (s.journal.running.wanted && is_none (least s.journal.flush.conflicts)) _ _ (λ e. record { history = refl; threads = refl }) (λ e. same)
  phase_quiet full Closing = close_quiet full
  phase_quiet full (Committing p) = by p.rest
    where
      by : (x : List Planned) → Quiet (elim x as (λ _. Turned V C R) [ [] ↦ record { host = s; turn = turns.Idle } | first ∷ rest ↦ submits M u full s (plan_sent M u s p first rest) ])
      by [] = same
      by (first ∷ rest) = submits_quiet full _ (plan_quiet p first rest)

  pub commit_quiet : (full : Bool) → Quiet (commit_step M u full s)
  commit_quiet full = either Quiet (is_over s.journal.flush) _ _ (λ e. same) (λ e. phase_quiet full s.journal.phase)
