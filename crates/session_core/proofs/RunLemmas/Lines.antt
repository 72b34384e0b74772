-- Events and lines, one after the other.
use Rattle.std.proofs.Common.{◌≡◌, ℕ, ◌+◌, ◌-◌, ◌<◌, ◌≤◌, suc, List, [], ◌∷◌, ◌++◌, length, map, drop, get_or, Result, Ok, Err, OnErr, OnOk, refl, sym, ap, ◌∙◌, arith, add-one, zero}
use Rattle.std.specs.List.{range_with_len}
use Rattle.std.proofs.lemmas.List.{drop_all}
use Rattle.std.proofs.Math.Seq.{drop-cons}
use Rattle.order_model.specs.Machine.{Machine}
use Rattle.schedulers.specs.reassign.Scheduler.{SchedSteps}
use Rattle.line_grammar.specs.declared.events.event.CoreEvent.{CoreEvent}
use Rattle.line_grammar.specs.declared.events.event.CoreEvent.TheVariants as events
use Rattle.line_grammar.specs.declared.events.event.EventLine.{EventLine}
use Rattle.minix_host.specs.Sessions.{Opening}
use Rattle.session_core.specs.run.machine.Machine.{SessionState, happens, run_events, events_of, repeated, word_events}
use Rattle.session_core.proofs.RunLemmas.MachineLemmas.SessionRuns.{events_append}

-- ---- lists that are left

pub more_left : (n i : ℕ) → i < n → n - i ≡ suc (n - (i + 1))
more_left n i lt = omega arith

pub none_left : (n i : ℕ) → n ≤ i → n - i ≡ 0
none_left n i le = omega arith

-- each of so many threads, from this one on
abbrev pub calls_from : ℕ → ℕ → List CoreEvent
calls_from first count = map events.Call (range_with_len first count)

-- what follows where a result is Ok
pub ok_map : {A E : Type 0} (result : Result A E) (P Q : Type 0) → (P → Q) → OnOk result P → OnOk result Q
ok_map (Ok x) P Q f h = f h
ok_map (Err x) P Q f h = tt

-- what follows where it is Err
pub err_map : {A E : Type 0} (result : Result A E) (P Q : Type 0) → (P → Q) → OnErr result P → OnErr result Q
err_map (Ok x) P Q f h = tt
err_map (Err x) P Q f h = f h

module _ {K S : Type 0} (s : Opening) (k : SchedSteps K) (m : Machine S) where
  abbrev pub run : SessionState K S → List CoreEvent → SessionState K S
  run r es = run_events s k m r es

  pub one_event : (r : SessionState K S) (e : CoreEvent) → run r (e ∷ []) ≡ happens s k m r e
  unfolding run_events
  one_event r e = refl

  -- ---- a list of events

  pub all_more : (r : SessionState K S) (es : List CoreEvent) (n : ℕ) (d : CoreEvent) → n < length es → run r (drop n es) ≡ run (happens s k m r (get_or es n d)) (drop (n + 1) es)
  unfolding run_events
  all_more r es n d lt = ap (run r) (drop-cons es n d lt) ∙ ap (λ i. run (happens s k m r (get_or es n d)) (drop i es)) (sym (add-one n))

  pub all_end : (r : SessionState K S) (es : List CoreEvent) (n : ℕ) → length es ≤ n → run r (drop n es) ≡ r
  unfolding run_events
  all_end r es n le = ap (run r) (drop_all n es le)

  -- ---- threads in order

  pub calls_more : (r : SessionState K S) (n i : ℕ) → i < n → run r (calls_from (i + 1) (n - i)) ≡ run (happens s k m r (events.Call (i + 1))) (calls_from (i + 1 + 1) (n - (i + 1)))
  unfolding run_events
  calls_more r n i lt = ap (λ c. run r (calls_from (i + 1) c)) (more_left n i lt)

  pub calls_end : (r : SessionState K S) (n i : ℕ) → n ≤ i → run r (calls_from (i + 1) (n - i)) ≡ r
  unfolding run_events
  calls_end r n i le = ap (λ c. run r (calls_from (i + 1) c)) (none_left n i le)

  -- ---- repeats

  pub repeats_more : (r : SessionState K S) (es : List CoreEvent) (n i : ℕ) → i < n → run r (repeated (n - i) es) ≡ run (run r es) (repeated (n - (i + 1)) es)
  repeats_more r es n i lt = ap (λ c. run r (repeated c es)) (more_left n i lt) ∙ events_append s k m r es (repeated (n - (i + 1)) es)

  pub repeats_end : (r : SessionState K S) (es : List CoreEvent) (n i : ℕ) → n ≤ i → run r (repeated (n - i) es) ≡ r
  unfolding run_events
  repeats_end r es n i le = ap (λ c. run r (repeated c es)) (none_left n i le)

  -- what does nothing once does nothing many times
  repeats_idle : (r : SessionState K S) (es : List CoreEvent) (n : ℕ) → run r es ≡ r → run r (repeated n es) ≡ r
  unfolding run_events
  repeats_idle r es zero e = refl
  repeats_idle r es (suc n) e = events_append s k m r es (repeated n es) ∙ ap (λ x. run x (repeated n es)) e ∙ repeats_idle r es n e

  -- where the events did nothing, the repeats that are left may be left out
  pub repeats_stop : (r new : SessionState K S) (es : List CoreEvent) (n : ℕ) → new ≡ run r es → new ≡ r → new ≡ run r (repeated n es)
  repeats_stop r new es n did same = same ∙ sym (repeats_idle r es n (sym did ∙ same))

  -- ---- lines

  pub lines_more : (threads : ℕ) (r : SessionState K S) (lines : List EventLine) (n : ℕ) (d : EventLine) → n < length lines
      → run r (events_of threads (drop n lines)) ≡ run (run r (repeated (get_or lines n d).count (word_events threads (get_or lines n d).what))) (events_of threads (drop (n + 1) lines))
  unfolding events_of
  lines_more threads r lines n d lt =
      let l = get_or lines n d in
      let first = repeated l.count (word_events threads l.what) in
      ap (λ ls. run r (events_of threads ls)) (drop-cons lines n d lt)
      ∙ ap (λ i. run r (first ++ events_of threads (drop i lines))) (sym (add-one n))
      ∙ events_append s k m r first (events_of threads (drop (n + 1) lines))

  pub lines_end : (threads : ℕ) (r : SessionState K S) (lines : List EventLine) (n : ℕ) → length lines ≤ n → run r (events_of threads (drop n lines)) ≡ r
  unfolding run_events events_of
  lines_end threads r lines n le = ap (λ ls. run r (events_of threads ls)) (drop_all n lines le)
