-- At the limit each step of a thread ends its call, or lets it begin: where none changes anything, no flush is due, and once all
-- flushes are answered, all calls have ended.
use Rattle.std.specs.List.{list_any}
use Rattle.std.specs.Prelude.{◌≡◌, ◌⊎◌, ℕ, ◌&&◌, Bool, true, false, not, List, [], ◌∷◌, Option, Some, None, refl}
use Rattle.std.proofs.Common.{sym, ap, ◌∙◌, arith, inl, inr}
use Rattle.std.proofs.lemmas.Bool.{cases_Bool, false≢true, both_ways, lt-ltb, and_parts, not-true}
use Rattle.blk_base.specs.laws.Members.{list_any-In}
use Rattle.order_model.specs.declared.completion.Completion.TheVariants as completions
use Rattle.page_cache.specs.declared.cached_page.CachedPage.{CachedPage}
use Rattle.flush_actor.specs.Kinds.{is_begun, is_durable}
use Rattle.flush_actor.specs.Part.{FlushPart, at_limit, is_moved, is_flushed_after, flush_above, last_put}
use Rattle.flush_actor.specs.Steps.{flush_due, is_due}
use Rattle.flush_actor.specs.Waits.{no_wait}
use Rattle.flush_actor.specs.declared.wait.Wait.{Wait}
use Rattle.commit_actor.specs.Journal.{is_submitted}
use Rattle.host_machine.specs.Causes.{Cause}
use Rattle.host_machine.specs.Host.{Goal, AwaitCommit, AnswerOk, AwaitLastPut, Stepped, advance, await_commit, await_durable, await_last_put, end_with, goal_of, hindrance, pursue, unsent_on, walk_pages}
use Rattle.host_machine.specs.Model.{Model}
use Rattle.host_machine.specs.State.{Ending, Answered, SessionFull, Begun, Host, Setup}
use Rattle.system_laws.specs.answered.Rounds.{HaveEnded}
use Rattle.system_laws.specs.progress.Commits.{IsInCall, IsNext}
use Rattle.system_laws.proofs.ProgressLemmas.BegunSteps.{needs, awaits_commit, sends_pages}
use Rattle.system_laws.proofs.AnsweredLemmas.CallSteps.{durable}
use Rattle.system_laws.proofs.AnsweredLemmas.Drained.{IsDrained}
use Rattle.system_laws.proofs.AnsweredLemmas.DrainedHolds.{some_at, flush_from}
use Rattle.system_laws.proofs.AnsweredLemmas.HoldFacts.{wait_of}
use Rattle.system_laws.proofs.AnsweredLemmas.HostFacts.{Facts}
use Rattle.system_laws.proofs.AnsweredLemmas.NextSteps.{acted, full_up, splits}
use Rattle.system_laws.proofs.AnsweredLemmas.StillHosts.{ended_differs, in_call, undone}

module _ {T V C R : Type 0} (M : Model T V C R) (u : Setup) (h : Host V C R) (facts : Facts h) (full : at_limit h.journal.flush ≡ true) (still : (t : ℕ) → (advance M u false h t).host ≡ h) where
  abbrev f : FlushPart
  f = h.journal.flush

  abbrev w : ℕ → Wait
  w t = wait_of h.journal t

  -- a step that ends the call
  abbrev IsEnd : ℕ → C → List C → Stepped V C R → Type 0
  IsEnd t c rest x = (e : Ending R) × (x.host ≡ (end_with M u h t c rest e).host)

  -- which the step of no thread is
  no_end : (t : ℕ) (c : C) (rest : List C) (x : Stepped V C R) → (advance M u false h t).host ≡ x.host → IsEnd t c rest x → ⊥
  no_end t c rest x is end = ended_differs M u h t c rest end.0 (sym end.1 ∙ (sym is ∙ still t))

  -- ---- what waits for a flush

  -- the call ends, where no flush stands behind what it needs, or one is answered
  durable_ends : (t : ℕ) (c : C) (rest : List C) (v : Wait) (id : ℕ) → (flush_above id 0 f.notes ≡ true → list_any (is_flushed_after id) f.taken ≡ true) → IsEnd t c rest (await_durable M u h t c rest v id)
  durable_ends t c rest v id told = by (cases_Bool (list_any (is_flushed_after id) f.taken)) (cases_Bool (flush_above id 0 f.notes))
    where
      by : (list_any (is_flushed_after id) f.taken ≡ true) ⊎ (list_any (is_flushed_after id) f.taken ≡ false) → (flush_above id 0 f.notes ≡ true) ⊎ (flush_above id 0 f.notes ≡ false) → IsEnd t c rest (await_durable M u h t c rest v id)
      by (inl flushed) other = (Answered M.ok, durable M u h t c rest v id flushed)
      by (inr unflushed) (inl above) = absurd (both_ways (list_any (is_flushed_after id) f.taken) unflushed (told above))
      by (inr unflushed) (inr none) = (SessionFull, rw (unflushed, full, none) refl)

  abbrev due_for : Option ℕ → Bool
  due_for need = elim need as (λ _. Bool) [ None ↦ false | Some id ↦ list_any (is_moved id) f.taken && not (flush_above id 0 f.notes) ]

  due_ends : (t : ℕ) (c : C) → IsInCall h t c → is_due f (w t) ≡ true → ⊥
  due_ends t c call due = by (w t).need refl
    where
      by : (o : Option ℕ) → (w t).need ≡ o → ⊥
      by None need = false≢true (sym (ap due_for need) ∙ due)
      by (Some id) need =
          let unsent = (and_parts (list_any (is_moved id) f.taken) (not (flush_above id 0 f.notes)) (sym (ap due_for need) ∙ due)).1 in
          no_end t c call.rest (await_durable M u h t c call.rest (w t) id) (needs M u h t c call facts.going id need) (durable_ends t c call.rest (w t) id (λ above. absurd (both_ways (flush_above id 0 f.notes) (not-true (flush_above id 0 f.notes) unsent) above)))

  pub none_due : flush_due f ≡ false
  none_due = elim (cases_Bool (list_any (is_due f) f.waits)) [
    | inr none ↦ rw (facts.going, none) refl
    | inl some ↦
        let at = some_at (is_due f) no_wait f.waits some in
        let call = in_call M u h facts (is_due f) refl at.0 at.1 in
        absurd (due_ends at.0 call.0 call.1 at.1)
  ]

  -- ---- all calls

  module _ (drained : IsDrained f) where
    answered : (id : ℕ) → flush_above id 0 f.notes ≡ true → list_any (is_flushed_after id) f.taken ≡ true
    answered id above =
        let flush = flush_from id 0 f.notes above in
        let low = flush.1 in
        list_any-In (is_flushed_after id) f.taken (completions.Flushed flush.0) (drained.flushed flush.0 flush.2) (lt-ltb id flush.0 (omega (arith, low)))

    module _ (t : ℕ) (c : C) (rest : List C) (v : Wait) where
      last_ends : IsEnd t c rest (await_last_put M u h t c rest v)
      last_ends = by (last_put 0 f.notes None)
        where
          by : (o : Option ℕ) → IsEnd t c rest (elim o as (λ _. Stepped V C R) [ None ↦ end_with M u h t c rest (Answered M.ok) | Some id ↦ await_durable M u h t c rest v id ])
          by None = (Answered M.ok, refl)
          by (Some id) = durable_ends t c rest v id (answered id)

      commit_ends : (k : ℕ) → IsEnd t c rest (await_commit M u h t c rest v k)
      commit_ends k = by (cases_Bool (is_submitted h.journal k)) (cases_Bool (is_durable v.kind))
        where
          by : (is_submitted h.journal k ≡ true) ⊎ (is_submitted h.journal k ≡ false) → (is_durable v.kind ≡ true) ⊎ (is_durable v.kind ≡ false) → IsEnd t c rest (await_commit M u h t c rest v k)
          by (inl through) (inl durably) = let same : (await_commit M u h t c rest v k).host ≡ (await_last_put M u h t c rest v).host = rw (through, durably) refl in (last_ends.0, same ∙ last_ends.1)
          by (inl through) (inr other) = (Answered M.ok, rw (through, other) refl)
          by (inr unsent) other = (SessionFull, rw (unsent, full) refl)

      pursue_ends : (goal : Goal) → IsEnd t c rest (pursue M u h t c rest v goal)
      pursue_ends AnswerOk = (Answered M.ok, refl)
      pursue_ends AwaitLastPut = last_ends
      pursue_ends (AwaitCommit k) = (SessionFull, rw full refl)

      pages_end : (b : Begun) → IsEnd t c rest (walk_pages M u false h t c rest v b)
      pages_end b = by (unsent_on h.pages b.list) refl
        where
          by : (o : Option (CachedPage × List (ℕ × ℕ))) → unsent_on h.pages b.list ≡ o → IsEnd t c rest (walk_pages M u false h t c rest v b)
          by None none = let same : (walk_pages M u false h t c rest v b).host ≡ (pursue M u h t c rest v (goal_of h.journal b)).host = rw (none, walk_pages) refl in let end = pursue_ends (goal_of h.journal b) in (end.0, same ∙ end.1)
          by (Some next) some = (SessionFull, rw (some, full, walk_pages) refl)

    none_begun : (t : ℕ) (c : C) → IsInCall h t c → ⊥
    none_begun t c call = by (w t).need refl (w t).target refl
      where
        by : (o : Option ℕ) → (w t).need ≡ o → (k : Option ℕ) → (w t).target ≡ k → ⊥
        by (Some id) need k target = no_end t c call.rest (await_durable M u h t c call.rest (w t) id) (needs M u h t c call facts.going id need) (durable_ends t c call.rest (w t) id (answered id))
        by None need (Some k) target = no_end t c call.rest (await_commit M u h t c call.rest (w t) k) (awaits_commit M u h t c call facts.going k need target) (commit_ends t c call.rest (w t) k)
        by None need None target = no_end t c call.rest (walk_pages M u false h t c call.rest (w t) call.begun) (sends_pages M u h t c call facts.going need target) (pages_end t c call.rest (w t) call.begun)

    none_next : (t : ℕ) (c : C) → IsNext h t c → ⊥
    none_next t c next = splits M u h t c next facts.going ⊥ (undone M u h t c (still t) next) (λ accepted kind. by accepted kind (hindrance M u h c) refl)
      where
        by : M.reply h.volume c ≡ None → is_begun (M.kind c) ≡ false → (o : Option Cause) → hindrance M u h c ≡ o → ⊥
        by accepted kind None opens = undone M u h t c (still t) next (acted M u h t c next facts.going accepted kind opens)
        by accepted kind (Some cause) waits = ended_differs M u h t c next.rest SessionFull (sym (full_up M u h t c next facts.going accepted kind full cause waits) ∙ still t)

    pub full_ended : HaveEnded h
    full_ended t th at = by th.calls refl th.begun refl
      where
        by : (cs : List C) → th.calls ≡ cs → (o : Option Begun) → th.begun ≡ o → th.calls ≡ []
        by [] calls o is = calls
        by (c ∷ rest) calls (Some b) is = absurd (none_begun t c (record { thread = th; rest = rest; begun = b; stands = at; calls = calls; has_begun = is }))
        by (c ∷ rest) calls None is = absurd (none_next t c (record { thread = th; rest = rest; stands = at; calls = calls; unbegun = is }))
