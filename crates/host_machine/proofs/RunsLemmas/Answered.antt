-- What an Ok gives stays, whatever the host does after it.
use Rattle.std.proofs.Common.{sym, ap, subst, ◌∙◌, inl, inr, ⊎_elim, arith, length-append}
use Rattle.std.proofs.lemmas.Bool.{false≢true}
use Rattle.std.specs.Prelude.{◌≡◌, ℕ, ◌+◌, Bool, true, ◌≤◌, List, [], ◌∷◌, length, Option, Some, None, slice_get, refl}
use Rattle.blk_base.specs.laws.Members.{slice_get-length}
use Rattle.order_model.specs.declared.completion.Completion.{Completion}
use Rattle.log_model.specs.Log.{Format}
use Rattle.log_model.specs.Marks.{Transaction}
use Rattle.log_model.specs.Ring.{Ring}
use Rattle.crash_laws.specs.History.{History}
use Rattle.crash_laws.specs.PromiseRules.{AreHeld}
use Rattle.crash_laws.specs.Session.{Session}
use Rattle.host_machine.proofs.ChangeSteps.{extends}
use Rattle.host_machine.proofs.Entries.{history_noted, entry_noted}
use Rattle.host_machine.proofs.Sends.{plainly}
use Rattle.host_machine.proofs.Steps.{stop-unanswered}
use Rattle.host_machine.specs.Host.{Stepped, stop_of, end_with, step_call, step_thread, continue_begun, advance}
use Rattle.host_machine.specs.Outcomes as outcomes
use Rattle.host_machine.specs.State.{Ending, Answered, Down, ReadOnly, SessionFull, Begun, Thread, Host}
use Rattle.host_machine.specs.Views.{transaction_of}
use Rattle.host_machine.specs.laws.Contract.{Over, Contract, noted_history, session}
use Rattle.host_machine.proofs.RunsLemmas.CallerHost.{begun_ok}
use Rattle.host_machine.proofs.RunsLemmas.OkSteps.{ok_pushed, ok_taken, ok_grows}
use Rattle.host_machine.proofs.RunsLemmas.RunHost.{step_keeps, step_fits}
use Rattle.host_machine.proofs.RunsLemmas.Threads.{moved}
use Rattle.host_machine.specs.runs.Promises.{KeepsOk, IsAnswered}
use Rattle.host_machine.specs.runs.Runs.{Event, stepped, steps, FitsWords, HasBlocks}
use Rattle.host_machine.specs.runs.laws.CallFacts.{wait_of}
use Rattle.host_machine.specs.runs.laws.Kept.{HasRules, IsSound}
use Rattle.host_machine.specs.runs.laws.Traces.{Trace, trace_of, Move, Stays, Puts, Enters, Cuts, Takes}
use Rattle.host_machine.specs.runs.laws.Written.{AreWritten}

-- ---- a promise reads requests and notes alone

module _ (base : List (List ℕ)) (format : Format) (journal : ℕ) (ring : Ring) (head sequence : ℕ) (transactions : ℕ → Transaction) (reserved freeable : List ℕ) where
  abbrev other : Session → Session
  other s = record { base = base; requests = s.requests; notes = s.notes; format = format; journal = journal; ring = ring; head = head; sequence = sequence; transactions = transactions; reserved = reserved; freeable = freeable }

  held_as : {A : Type 0} {h : History A} {s : Session} {Good : ℕ → Type 0} {Pair : ℕ → ℕ → ℕ → Type 0} {Metadata : ℕ → Type 0} → AreHeld h s Good Pair Metadata → AreHeld h (other s) Good Pair Metadata
  held_as x = record {
    K = x.K;
    commit = x.commit;
    pairs = λ f i n c.
        ⊎_elim (λ g. inl g)
        (λ y. inr (record { place = y.place; version = y.version; note = y.note; ordered = y.ordered; good = y.good; later = y.later; mapped = y.mapped; calm = y.calm }))
        (x.pairs f i n c);
    metadata = x.metadata;
  }

  pub ok_as : {A : Type 0} {h : History A} {s : Session} {taken : List Completion} {e : ℕ} {b : Begun} → KeepsOk h s taken e b → KeepsOk h (other s) taken e b
  ok_as old = record {
    barrier = λ d. let x = old.barrier d in record { barrier = x.barrier; fence = x.fence; held = held_as x.held; pages = x.pages; commits = x.commits };
    sync = λ d. ⊎_elim (λ k. inl (record { flush = k.flush; flushed = k.flushed; held = held_as k.held })) (λ n. inr n) (old.sync d);
    cause = λ d. let x = old.cause d in record { k = x.k; c = x.c; commit = x.commit; begun = x.begun; ended = x.ended; flushed = x.flushed };
  }

module _ {A T V C R : Type 0} {o : Over A T V C R} {Stands : V → T → Type 0} (contract : Contract o Stands) where
  -- as it is seen from outside
  abbrev seen : Ring → Trace C R → Session
  seen ring t = record {
    base = o.base;
    requests = t.requests;
    notes = t.notes;
    format = o.format;
    journal = o.setup.journal;
    ring = ring;
    head = 0;
    sequence = o.setup.sequence;
    transactions = transaction_of [];
    reserved = o.reserved;
    freeable = o.freeable;
  }

  module _ (ring : Ring) (e : ℕ) (b : Begun) where
    abbrev OkAt : Trace C R → Type 0
    OkAt t = KeepsOk (noted_history o Stands t.history t.cuts) (seen ring t) t.taken e b × (b.begin ≤ length t.history)

    moves : (s : Host V C R) → HasRules contract s → (t : Trace C R) → Move (trace_of s) t → OkAt (trace_of s) → OkAt t
    moves s has t (Stays q) ok = subst OkAt q ok
    moves s has t (Puts request note room q) ok = subst OkAt q (ok_pushed (plainly (seen ring (trace_of s)) has.2.images.0.counted request note) ok.0, ok.1)
    moves s has t (Takes c q) ok = subst OkAt q (ok_taken c ok.0, ok.1)
    moves s has t (Enters entry q) ok =
        let images = has.2.images.0 in
        let ext = extends (entry_noted o.model s.history entry o.place s.cuts s.journal.running.number images.closed images.numbers.cuts) images.numbers in
        let sess = session o Stands has.0 s in
        let longer = length-append s.history (entry ∷ []) in
        let le = ok.1 in
        subst OkAt q (
          ok_as o.base o.format o.setup.journal ring 0 o.setup.sequence (transaction_of []) o.reserved o.freeable
              (ok_grows ext ok.1 (ok_as sess.base sess.format sess.journal sess.ring sess.head sess.sequence sess.transactions sess.reserved sess.freeable ok.0)),
          omega arith,
        )
    moves s has t (Cuts q) ok =
        subst OkAt q (subst (λ h. KeepsOk h (seen ring (trace_of s)) s.journal.flush.taken e b) (history_noted o.model o.place s.history s.cuts) ok.0, ok.1)

  -- ---- an answer

  module _ (s : Host V C R) (kept : IsSound contract s) (full : Bool) (t : ℕ) (th : Thread C) (b : Begun) (at : slice_get s.threads t ≡ Some th) (begun : th.begun ≡ Some b) where
    pub answered_now : (r : R) → r ≡ o.model.ok → (advance o.model o.setup full s t).step ≡ outcomes.Done r → IsAnswered o Stands s (length s.history + 1) b
    answered_now r q done = of_calls th.calls refl (ap (λ (x : Stepped V C R). x.step) (sym here) ∙ done ∙ ap outcomes.Done q)
      where
        here : advance o.model o.setup full s t ≡ step_thread o.model o.setup full s t (Some b) th.calls
        here =
            ap (λ x. elim x as (λ _. Stepped V C R) [ None ↦ record { host = s; step = outcomes.Ended } | Some th ↦ step_thread o.model o.setup full s t th.begun th.calls ]) at
            ∙ ap (λ x. step_thread o.model o.setup full s t x th.calls) begun

        ok : (c : C) (rest : List C) → (continue_begun o.model o.setup full s t c rest (wait_of s.journal.flush.waits t) b).step ≡ outcomes.Done o.model.ok → IsAnswered o Stands s (length s.history + 1) b
        ok c rest e =
            let has = kept.rules in
            let sess = session o Stands [] s in
            ok_as sess.base sess.format sess.journal sess.ring sess.head sess.sequence sess.transactions sess.reserved sess.freeable
            (begun_ok contract has.0 has.1 s has.2 has.3 has.4 t c rest (slice_get-length s.threads t th at) th b at begun full e)

        of_calls : (calls : List C) → th.calls ≡ calls → (step_thread o.model o.setup full s t (Some b) calls).step ≡ outcomes.Done o.model.ok → IsAnswered o Stands s (length s.history + 1) b
        of_calls [] same e = let z : ⊥ = cc in absurd z
        of_calls (c ∷ rest) same e = by (stop_of o.model o.setup s.journal.flush.taken (o.model.kind c)) refl e
          where
            stopped : (stop : Ending R) → stop_of o.model o.setup s.journal.flush.taken (o.model.kind c) ≡ Some stop → (end_with o.model o.setup s t c rest stop).step ≡ outcomes.Done o.model.ok → ⊥
            stopped (Answered r) q e = false≢true (sym (stop-unanswered o.model o.setup s.journal.flush.taken (o.model.kind c) (Answered r) q t c true refl))
            stopped Down q e = cc
            stopped (ReadOnly id) q e = cc
            stopped SessionFull q e = cc

            by : (x : Option (Ending R)) → stop_of o.model o.setup s.journal.flush.taken (o.model.kind c) ≡ x
                → (elim x as (λ _. Stepped V C R) [ Some stop ↦ end_with o.model o.setup s t c rest stop | None ↦ step_call o.model o.setup full s t (Some b) c rest ]).step ≡ outcomes.Done o.model.ok → IsAnswered o Stands s (length s.history + 1) b
            by None q e = ok c rest e
            by (Some stop) q e = absurd (stopped stop q e)

  -- ---- it stays

  module _ (written : AreWritten o.format o.setup.writers) (blocks : HasBlocks o Stands) where
    pub answer_stays : (s : Host V C R) (es : List Event) (e : ℕ) (b : Begun) → IsSound contract s → FitsWords o s → b.begin ≤ length s.history → IsAnswered o Stands s e b → IsAnswered o Stands (steps o s es) e b
    answer_stays s [] e b kept fits begun ok = ok
    answer_stays s (event ∷ es) e b kept fits begun ok =
        let ring = s.journal.ring.places in
        let next = stepped o s event in
        let x = moves ring e b s kept.rules (trace_of next) (moved o s kept.begun event).1 (ok_as o.base o.format o.setup.journal ring 0 o.setup.sequence (transaction_of []) o.reserved o.freeable ok, begun) in
        let sess = session o Stands [] next in
        answer_stays next es e b (step_keeps contract written blocks s event kept fits) (step_fits contract written blocks s event kept fits) x.1 (ok_as sess.base sess.format sess.journal sess.ring sess.head sess.sequence sess.transactions sess.reserved sess.freeable x.0)
