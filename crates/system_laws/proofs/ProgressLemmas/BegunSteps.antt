-- A step of a thread whose barrier or sync call has begun: what it goes on with.
use Rattle.std.specs.Prelude.{◌≡◌, ℕ, Bool, true, false, Option, Some, None, slice_get, slice_index_or, refl}
use Rattle.std.specs.List.{list_any}
use Rattle.std.proofs.Common.{sym, ap, ◌∙◌, inl, inr}
use Rattle.std.proofs.lemmas.Bool.{cases_Bool, or_parts}
use Rattle.flush_actor.specs.Kinds.{is_reading}
use Rattle.flush_actor.specs.Part.{is_cut, first_failed, is_over}
use Rattle.flush_actor.specs.Waits.{no_wait}
use Rattle.flush_actor.specs.declared.call_kind.CallKind.{CallKind}
use Rattle.flush_actor.specs.declared.wait.Wait.{Wait}
use Rattle.host_machine.specs.Host.{Stepped, advance, step_thread, step_call, end_with, stop_of, continue_begun, walk_pages, await_commit, await_durable}
use Rattle.host_machine.specs.Model.{Model}
use Rattle.host_machine.specs.Outcomes as outcomes
use Rattle.host_machine.specs.State.{Host, Setup}
use Rattle.system_laws.specs.progress.Commits.{IsInCall}

-- a thread that stands as before is in the same call
abbrev pub in_call : {V C R : Type 0} (h x : Host V C R) (t : ℕ) (c : C) (call : IsInCall h t c) → slice_get x.threads t ≡ slice_get h.threads t → IsInCall x t c
in_call h x t c call same = record { thread = call.thread; rest = call.rest; begun = call.begun; stands = same ∙ call.stands; calls = call.calls; has_begun = call.has_begun }

module _ {T V C R : Type 0} (M : Model T V C R) (u : Setup) where
  module _ (h : Host V C R) (going : is_over h.journal.flush ≡ false) where
    pub unstopped : (kind : CallKind) → stop_of M u h.journal.flush.taken kind ≡ None
    unstopped kind =
        let both = or_parts (list_any is_cut h.journal.flush.taken) _ going in
        by (first_failed h.journal.flush.taken) refl both.0 both.1 kind
      where
        by : (o : Option ℕ) → first_failed h.journal.flush.taken ≡ o → list_any is_cut h.journal.flush.taken ≡ false → (elim (first_failed h.journal.flush.taken) as (λ _. Bool) [ None ↦ false | Some id ↦ true ]) ≡ false →
            (kind : CallKind) → stop_of M u h.journal.flush.taken kind ≡ None
        by (Some id) at uncut unfailed kind = absurd (cc (sym (ap (λ o. elim o as (λ _. Bool) [ None ↦ false | Some id ↦ true ]) at) ∙ unfailed))
        by None at uncut unfailed kind = elim (cases_Bool (is_reading kind)) [ inl reads ↦ rw (uncut, reads) refl | inr other ↦ rw (uncut, other, at) refl ]

  module _ (h : Host V C R) (t : ℕ) (c : C) (call : IsInCall h t c) (going : is_over h.journal.flush ≡ false) where
    abbrev w : Wait
    w = slice_index_or h.journal.flush.waits t no_wait

    goes_on : (advance M u false h t).host ≡ (continue_begun M u false h t c call.rest w call.begun).host
    goes_on =
        ap (λ o. (elim o as (λ _. Stepped V C R) [ None ↦ record { host = h; step = outcomes.Ended } | Some th ↦ step_thread M u false h t th.begun th.calls ]).host) call.stands
        ∙ (ap (λ cs. (step_thread M u false h t call.thread.begun cs).host) call.calls
        ∙ (ap (λ o. (elim o as (λ _. Stepped V C R) [ Some stop ↦ end_with M u h t c call.rest stop | None ↦ step_call M u false h t call.thread.begun c call.rest ]).host) (unstopped h going (M.kind c))
        ∙ ap (λ o. (step_call M u false h t o c call.rest).host) call.has_begun))

    abbrev Chosen : Option ℕ → Option ℕ → Host V C R
    Chosen need target = (elim need as (λ _. Stepped V C R) [
      | Some id ↦ await_durable M u h t c call.rest w id
      | None ↦ elim target as (λ _. Stepped V C R) [ Some k ↦ await_commit M u h t c call.rest w k | None ↦ walk_pages M u false h t c call.rest w call.begun ]
    ]).host

    pub needs : (id : ℕ) → w.need ≡ Some id → (advance M u false h t).host ≡ (await_durable M u h t c call.rest w id).host
    needs id need = goes_on ∙ ap (λ need. Chosen need w.target) need

    pub awaits_commit : (k : ℕ) → w.need ≡ None → w.target ≡ Some k → (advance M u false h t).host ≡ (await_commit M u h t c call.rest w k).host
    awaits_commit k no_need target = goes_on ∙ (ap (λ need. Chosen need w.target) no_need ∙ ap (Chosen None) target)

    -- until it waits for one, it sends its pages
    pub sends_pages : w.need ≡ None → w.target ≡ None → (advance M u false h t).host ≡ (walk_pages M u false h t c call.rest w call.begun).host
    sends_pages no_need no_target = goes_on ∙ (ap (λ need. Chosen need w.target) no_need ∙ ap (Chosen None) no_target)
