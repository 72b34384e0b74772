-- A turn of an actor that did nothing leaves the host.
use Rattle.std.specs.List.{find, filter}
use Rattle.std.specs.Prelude.{◌≡◌, ◌≢◌, ℕ, ◌&&◌, Bool, true, false, not, List, [], ◌∷◌, slice_get, slice_index_or, nat_lt, Option, Some, None, refl, if◌then◌else◌}
use Rattle.order_model.specs.declared.completion.Completion.{Completion}
use Rattle.order_model.specs.declared.turn.Turn.TheVariants as turns
use Rattle.page_cache.specs.Pages.{is_unsent, is_dirty}
use Rattle.page_cache.specs.declared.cached_page.CachedPage.{CachedPage}
use Rattle.host_machine.specs.Host.{Turned, send_page, submits, build_plan, checkpoint, close_step, plan_sent, in_phase, commit_step, writeback, flush_step, take_step}
use Rattle.host_machine.specs.Model.{Model}
use Rattle.number_sets.specs.Sets.{has}
use Rattle.journal_ring.specs.LogRing.{ring_free}
use Rattle.journal_ring.specs.running.Running.{log_needs}
use Rattle.journal_ring.specs.running.Plan.{Planned}
use Rattle.host_machine.specs.State.{Host, Setup}
use Rattle.commit_actor.specs.Journal.{Phase, Idle, Closing, Committing, is_submitted}
use Rattle.flush_actor.specs.Part.{at_limit, is_over}
use Rattle.flush_actor.specs.Steps.{flush_due}

-- by one test
pub test : {X : Type 0} (P : X → Type 0) (b : Bool) (x y : X) → P x → P y → P (if b then x else y)
test P true x y h i = h
test P false x y h i = i

module _ {T V C R : Type 0} (M : Model T V C R) (u : Setup) (full : Bool) (s : Host V C R) where
  abbrev Leaves : Turned V C R → Type 0
  Leaves r = r.turn ≢ turns.Did → r.host ≡ s

  did : (out : Host V C R) → Leaves (record { host = out; turn = turns.Did })
  did out apart = absurd (apart refl)

  submits_leaves : (out : Host V C R) → Leaves (submits M u full s out)
  submits_leaves out = test Leaves (at_limit s.journal.flush) _ _ (λ apart. refl) (test Leaves full _ _ (λ apart. refl) (did out))

  pub writeback_leaves : (pick : ℕ) → Leaves (writeback M u full s pick)
  writeback_leaves pick = test Leaves (is_over s.journal.flush) _ _ (λ apart. refl) (by (slice_get (filter (λ (p : CachedPage). is_dirty p.state) s.pages) pick))
    where
      goes : Option CachedPage → Turned V C R
      goes x = elim x as (λ _. Turned V C R) [
        | None ↦ record { host = s; turn = turns.Idle }
        | Some p ↦ submits M u full s (send_page M u s p (not (is_submitted s.journal (slice_index_or s.owners p.block 0))) false)
      ]

      by : (x : Option CachedPage) → Leaves (goes x)
      by None = λ apart. refl
      by (Some p) = submits_leaves _

  pub take_leaves : (next : Option Completion) → Leaves (take_step M u s next)
  take_leaves None = λ apart. refl
  take_leaves (Some c) = did _

  pub flush_leaves : (next : Option Completion) → Leaves (flush_step M u full s next)
  flush_leaves next = test Leaves (flush_due s.journal.flush) _ _ (submits_leaves _) (take_leaves next)

  close_leaves : Leaves (close_step M u full s)
  close_leaves = by (find (λ p. is_unsent p.state && has s.journal.running.changed p.birth) s.pages)
    where
      goes : Option CachedPage → Turned V C R
      goes x = elim x as (λ _. Turned V C R) [
        | Some p ↦ submits M u full s (send_page M u s p true false)
        | None ↦
            if nat_lt (ring_free s.journal.ring) (log_needs u.writers s.journal.running) then submits M u full s (checkpoint M u s s.journal.ring.homes)
            else record { host = build_plan M u s; turn = turns.Did }
      ]

      by : (x : Option CachedPage) → Leaves (goes x)
      by (Some p) = submits_leaves _
      by None = test Leaves (nat_lt (ring_free s.journal.ring) (log_needs u.writers s.journal.running)) _ _ (submits_leaves _) (did _)

  phase_leaves : (phase : Phase) → Leaves (in_phase M u full s phase)
  phase_leaves Idle = test Leaves (s.journal.running.wanted && _) _ _ (did _) (λ apart. refl)
  phase_leaves Closing = close_leaves
  phase_leaves (Committing p) = by p.rest
    where
      goes : List Planned → Turned V C R
      goes x = elim x as (λ _. Turned V C R) [ [] ↦ record { host = s; turn = turns.Idle } | first ∷ rest ↦ submits M u full s (plan_sent M u s p first rest) ]

      by : (x : List Planned) → Leaves (goes x)
      by [] = λ apart. refl
      by (first ∷ rest) = submits_leaves _

  pub commit_leaves : Leaves (commit_step M u full s)
  commit_leaves = test Leaves (is_over s.journal.flush) _ _ (λ apart. refl) (phase_leaves s.journal.phase)
