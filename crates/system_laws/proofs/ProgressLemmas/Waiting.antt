-- What steps of the commit actor leave as it is: threads, what was taken, and what barrier calls wait for. So a barrier call
-- whose transaction is through is answered in one step of its thread, and one that waits for none sends its pages.
use Rattle.std.specs.Prelude.{◌≡◌, ℕ, zero, suc, ◌-◌, Bool, true, false, List, [], ◌∷◌, length, map, Some, None, slice_index_or, refl}
use Rattle.std.proofs.Common.{ap, ◌∙◌}
use Rattle.log_model.specs.Marks.{Logged}
use Rattle.flush_actor.specs.Kinds.{is_durable, makes_durable}
use Rattle.flush_actor.specs.Part.{is_over}
use Rattle.flush_actor.specs.Waits.{no_wait, need_commit}
use Rattle.flush_actor.specs.declared.call_kind.CallKind.{CallKind}
use Rattle.flush_actor.specs.declared.call_kind.CallKind.TheVariants as kinds
use Rattle.flush_actor.specs.declared.wait.Wait.{Wait}
use Rattle.commit_actor.specs.Journal.{Plan, is_submitted}
use Rattle.journal_ring.specs.running.Plan.{Planned}
use Rattle.host_machine.specs.Host.{Stepped, checkpoint, plan_sent, commit_step, advance, step_thread, step_call, end_with, walk_pages, await_commit}
use Rattle.host_machine.specs.Model.{Model}
use Rattle.host_machine.specs.Outcomes as outcomes
use Rattle.host_machine.specs.State.{Answered, Host, Setup}
use Rattle.host_machine.proofs.RunsLemmas.Walks.{commit_walk}
use Rattle.system_laws.specs.progress.Commits.{IsNext, IsInBarrier}
use Rattle.system_laws.proofs.ProgressLemmas.BegunSteps.{unstopped, awaits_commit, sends_pages}

-- a call that does not wait for the device needs no commit block durable
no_block : (k id : ℕ) (w : Wait) → is_durable w.kind ≡ false → need_commit k id w ≡ w
no_block k id w barrier = rw (no_need w.kind barrier) refl
  where
    no_need : (kind : CallKind) → is_durable kind ≡ false → makes_durable kind ≡ false
    no_need kinds.FileSync e = cc
    no_need kinds.WholeSync e = cc
    no_need kinds.DataSync e = cc
    no_need kinds.Reading e = refl
    no_need kinds.Changing e = refl
    no_need kinds.FileBarrier e = refl
    no_need kinds.DataBarrier e = refl

all_noted : (k id : ℕ) (ws : List Wait) (t : ℕ) → is_durable (slice_index_or ws t no_wait).kind ≡ false → slice_index_or (map (need_commit k id) ws) t no_wait ≡ slice_index_or ws t no_wait
all_noted k id [] t e = refl
all_noted k id (w ∷ ws) zero e = no_block k id w e
all_noted k id (w ∷ ws) (suc t) e = all_noted k id ws t e

module _ {T V C R : Type 0} (M : Model T V C R) (u : Setup) where
  pub record Keeps (h x : Host V C R) : Type 0 where
    pub threads : x.threads ≡ h.threads
    pub taken : x.journal.flush.taken ≡ h.journal.flush.taken
    pub waits : (t : ℕ) → is_durable (slice_index_or h.journal.flush.waits t no_wait).kind ≡ false → slice_index_or x.journal.flush.waits t no_wait ≡ slice_index_or h.journal.flush.waits t no_wait

  pub keeps_then : (h x y : Host V C R) → Keeps h x → Keeps x y → Keeps h y
  keeps_then h x y one two = record {
    threads = two.threads ∙ one.threads;
    taken = two.taken ∙ one.taken;
    waits = λ t e. two.waits t (ap (λ (w : Wait). is_durable w.kind) (one.waits t e) ∙ e) ∙ one.waits t e;
  }

  module _ (h : Host V C R) where
    pub same : Keeps h h
    same = record { threads = refl; taken = refl; waits = λ t e. refl }

    checked : (homes : List Logged) → Keeps h (checkpoint M u h homes)
    checked [] = record { threads = refl; taken = refl; waits = λ t e. refl }
    checked (x ∷ xs) = record { threads = refl; taken = refl; waits = λ t e. refl }

    sent : (p : Plan) (next : Planned) (rest : List Planned) → Keeps h (plan_sent M u h p next rest)
    sent p next [] = record { threads = refl; taken = refl; waits = λ t e. all_noted (h.journal.running.number - 1) (length h.journal.flush.requests) h.journal.flush.waits t e }
    sent p next (q ∷ qs) = record { threads = refl; taken = refl; waits = λ t e. refl }

    pub commit_keeps : (is_full : Bool) → Keeps h (commit_step M u is_full h).host
    commit_keeps is_full = commit_walk M u is_full h (Keeps h) (record {
      rests = same;
      closes = record { threads = refl; taken = refl; waits = λ t e. refl };
      sends_page = λ p limit free. record { threads = refl; taken = refl; waits = λ t e. refl };
      checkpoints = λ limit free. checked h.journal.ring.homes;
      builds = record { threads = refl; taken = refl; waits = λ t e. refl };
      sends_plan = λ p next rest phase is limit free. sent p next rest;
    })

  -- ---- a step of a thread in a barrier call

  module _ (h : Host V C R) (going : is_over h.journal.flush ≡ false) where
    -- a call that has not begun is refused, or begins, or is done at once
    pub starts : (t : ℕ) (c : C) (next : IsNext h t c) → (advance M u false h t).host ≡ (step_call M u false h t None c next.rest).host
    starts t c next =
        ap (λ o. (elim o as (λ _. Stepped V C R) [ None ↦ record { host = h; step = outcomes.Ended } | Some th ↦ step_thread M u false h t th.begun th.calls ]).host) next.stands
        ∙ (ap (λ cs. (step_thread M u false h t next.thread.begun cs).host) next.calls
        ∙ (ap (λ o. (elim o as (λ _. Stepped V C R) [ Some stop ↦ end_with M u h t c next.rest stop | None ↦ step_call M u false h t next.thread.begun c next.rest ]).host) (unstopped M u h going (M.kind c))
        ∙ ap (λ o. (step_call M u false h t o c next.rest).host) next.unbegun))

  module _ (h : Host V C R) (t : ℕ) (c : C) (call : IsInBarrier h t c) (going : is_over h.journal.flush ≡ false) where
    abbrev w : Wait
    w = slice_index_or h.journal.flush.waits t no_wait

    committed : (k : ℕ) → is_durable w.kind ≡ false → is_submitted h.journal k ≡ true → (await_commit M u h t c call.called.rest w k).host ≡ (end_with M u h t c call.called.rest (Answered M.ok)).host
    committed k barrier through = rw (through, barrier) refl

    -- where the transaction is through, the call is done
    pub done : (k : ℕ) → is_durable w.kind ≡ false → w.need ≡ None → w.target ≡ Some k → is_submitted h.journal k ≡ true → (advance M u false h t).host ≡ (end_with M u h t c call.called.rest (Answered M.ok)).host
    done k barrier no_need target through = awaits_commit M u h t c call.called going k no_need target ∙ committed k barrier through

    -- until it waits for one, it sends its pages
    pub sends : w.need ≡ None → w.target ≡ None → (advance M u false h t).host ≡ (walk_pages M u false h t c call.called.rest w call.called.begun).host
    sends no_need no_target = sends_pages M u h t c call.called going no_need no_target
