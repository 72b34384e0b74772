-- The entries of each thread are the calls of its program, in order.
use Rattle.std.proofs.Common.{zero, suc, ◌<◌, arith, ◌≡◌, ◌≢◌, ℕ, map, ◌==◌, Bool, true, false, is_some, List, [], ◌∷◌, ◌++◌, length, set, Option, Some, None, slice_get, option_map, unwrap_or, refl, sym, ap, subst, ◌∙◌, ⊎_elim, append_assoc, if◌then◌else◌}
use Rattle.std.proofs.lemmas.Bool.{cases_eq, eq-eqb, ne_eqb}
use Rattle.std.proofs.lemmas.List.{append-nil, map-append}
use Rattle.std.proofs.lemmas.Option.{same_Some, none-some, slice_get-map}
use Rattle.blk_base.specs.laws.Members.{slice_get-map_some, map_some-slice_get, slice_get-set_same, slice_get-set_other, slice_get-length}
use Rattle.tree_model.specs.declared.call.Call.{Call}
use Rattle.tree_model.specs.declared.call.Reply.{Reply}
use Rattle.crash_laws.specs.LegalHistory.{Event, Begin, End, thread_of, has_begun, Follows, of_thread}
use Rattle.host_machine.specs.Host.{Stepped, advance}
use Rattle.host_machine.specs.State.{What, Ending, Begins, Ends, Begun, Thread, Entry, Host}
use Rattle.host_machine.specs.laws.Contract.{Over}
use Rattle.host_machine.specs.runs.Runs as runs
use Rattle.host_machine.specs.runs.Runs.{stepped, steps}
use Rattle.call_sessions.specs.promises.Entries.{BeginsAt, NoneBetween}
use Rattle.call_sessions.specs.promises.Legal.{reply_in, event_of, events_in, program_of}
use Rattle.call_sessions.proofs.PromisesLemmas.CallerSteps.{CallStep, Rests, Sends, Starts, Finishes, ThreadStep, Over as NoCall, Calls, caller_step}
use Rattle.call_sessions.proofs.PromisesLemmas.HostSteps.{commit_quiet, writeback_quiet, flush_quiet, take_quiet}

-- ---- what each step of a thread keeps

module _ {A T V C R : Type 0} (o : Over A T V C R) (P : ℕ → Option (Thread C) → List (Entry C R) → Type 0)
    (sends : (t : ℕ) (th : Thread C) (c : C) (rest : List C) (b new : Begun) (h : List (Entry C R)) → th.calls ≡ c ∷ rest → th.begun ≡ Some b → P t (Some th) h → P t (Some (record { calls = c ∷ rest; begun = Some new })) h)
    (starts : (t : ℕ) (th : Thread C) (c : C) (rest : List C) (b : Begun) (h : List (Entry C R)) → th.calls ≡ c ∷ rest → th.begun ≡ None → P t (Some th) h → P t (Some (record { calls = c ∷ rest; begun = Some b })) (h ++ record { thread = t; call = c; what = Begins } ∷ []))
    (finishes : (t : ℕ) (th : Thread C) (c : C) (rest : List C) (e : Ending R) (h : List (Entry C R)) → th.calls ≡ c ∷ rest → P t (Some th) h → P t (Some (record { calls = rest; begun = None })) (h ++ record { thread = t; call = c; what = Ends e } ∷ []))
    (others : (t u : ℕ) (x : Option (Thread C)) (c : C) (what : What R) (h : List (Entry C R)) → t ≢ u → P t x h → P t x (h ++ record { thread = u; call = c; what = what } ∷ [])) where
  abbrev pub AllKeep : Host V C R → Type 0
  AllKeep h = (t : ℕ) → P t (slice_get h.threads t) h.history

  -- thread t is now y, and the others are as they were
  put_one : (threads : List (Thread C)) (t : ℕ) (th y : Thread C) (old new : List (Entry C R)) → slice_get threads t ≡ Some th → ((u : ℕ) → P u (slice_get threads u) old) →
      P t (Some y) new → ((u : ℕ) → u ≢ t → P u (slice_get threads u) old → P u (slice_get threads u) new) → (u : ℕ) → P u (slice_get (set threads t y) u) new
  put_one threads t th y old new at before here there u =
      ⊎_elim
      (λ same. subst (λ n. P n (slice_get (set threads t y) n) new) (sym same) (subst (λ x. P t x new) (sym (slice_get-set_same threads t y (slice_get-length threads t th at))) here))
      (λ apart. subst (λ x. P u x new) (sym (slice_get-set_other threads t u y apart)) (there u apart (before u)))
      (cases_eq u t)

  module _ (h : Host V C R) (old : AllKeep h) where
    quiet : (g : Host V C R) → g.history ≡ h.history → g.threads ≡ h.threads → AllKeep g
    quiet g history threads t = subst (λ l. P t (slice_get g.threads t) l) (sym history) (subst (λ l. P t (slice_get l t) h.history) (sym threads) (old t))

    of_old : (t : ℕ) (th : Thread C) → slice_get h.threads t ≡ Some th → P t (Some th) h.history
    of_old t th at = subst (λ x. P t x h.history) at (old t)

    finish : (g : Host V C R) (t : ℕ) (th y : Thread C) (new : List (Entry C R)) → slice_get h.threads t ≡ Some th → g.history ≡ new → g.threads ≡ set h.threads t y → P t (Some y) new →
        ((u : ℕ) → u ≢ t → P u (slice_get h.threads u) h.history → P u (slice_get h.threads u) new) → AllKeep g
    finish g t th y new at history threads here there u =
        subst (λ l. P u (slice_get g.threads u) l) (sym history)
        (subst (λ l. P u (slice_get l u) new) (sym threads) (put_one h.threads t th y h.history new at old here there u))

    called : (t : ℕ) (th : Thread C) (c : C) (rest : List C) (x : Stepped V C R) → slice_get h.threads t ≡ Some th → th.calls ≡ c ∷ rest → CallStep o.model o.setup h t c rest th.begun x → AllKeep x.host
    called t th c rest x at calls (Rests same threads) = quiet x.host same threads
    called t th c rest x at calls (Sends b new was stays same threads) =
        finish x.host t th (record { calls = c ∷ rest; begun = Some new }) h.history at same threads (sends t th c rest b new h.history calls was (of_old t th at)) (λ u apart p. p)
    called t th c rest x at calls (Starts b none reply kind is more threads) =
        finish x.host t th (record { calls = c ∷ rest; begun = Some b }) (h.history ++ record { thread = t; call = c; what = Begins } ∷ []) at more threads
        (starts t th c rest b h.history calls none (of_old t th at)) (λ u apart p. others u t (slice_get h.threads u) c Begins h.history apart p)
    called t th c rest x at calls (Finishes e why said more threads) =
        finish x.host t th (record { calls = rest; begun = None }) (h.history ++ record { thread = t; call = c; what = Ends e } ∷ []) at more threads
        (finishes t th c rest e h.history calls (of_old t th at)) (λ u apart p. others u t (slice_get h.threads u) c (Ends e) h.history apart p)

    by_thread : (full : Bool) (t : ℕ) → ThreadStep o.model o.setup h full t (advance o.model o.setup full h t) → AllKeep (advance o.model o.setup full h t).host
    by_thread full t (NoCall same threads) = quiet (advance o.model o.setup full h t).host same threads
    by_thread full t (Calls th c rest at calls step) = called t th c rest (advance o.model o.setup full h t) at calls step

    one_step : (e : runs.Event) → AllKeep (stepped o h e)
    one_step (runs.Call full t) = by_thread full t (caller_step o.model o.setup h full t)
    one_step (runs.Commit full) = (let q = commit_quiet o.model o.setup h full in quiet (stepped o h (runs.Commit full)) q.history q.threads)
    one_step (runs.WriteBack full pick) = (let q = writeback_quiet o.model o.setup h full pick in quiet (stepped o h (runs.WriteBack full pick)) q.history q.threads)
    one_step (runs.FlushStep full next) = (let q = flush_quiet o.model o.setup h full next in quiet (stepped o h (runs.FlushStep full next)) q.history q.threads)
    one_step (runs.TakeStep next) = (let q = take_quiet o.model o.setup h next in quiet (stepped o h (runs.TakeStep next)) q.history q.threads)

  pub all_keep : (h : Host V C R) → AllKeep h → (es : List runs.Event) → AllKeep (steps o h es)
  all_keep h old [] = old
  all_keep h old (e ∷ es) = all_keep (stepped o h e) (one_step h old e) es

-- ---- the events of one thread

push_event : (t : ℕ) (es : List Event) (x : Event) → thread_of x ≡ t → of_thread t (es ++ x ∷ []) ≡ of_thread t es ++ x ∷ []
push_event t [] x same = rw (eq-eqb (thread_of x) t same) refl
push_event t (e ∷ es) x same = by (thread_of e == t) (push_event t es x same)
  where
    by : (b : Bool) → of_thread t (es ++ x ∷ []) ≡ of_thread t es ++ x ∷ [] → (if b then e ∷ of_thread t (es ++ x ∷ []) else of_thread t (es ++ x ∷ [])) ≡ (if b then e ∷ of_thread t es else of_thread t es) ++ x ∷ []
    by true rest = ap (λ (l : List Event). e ∷ l) rest
    by false rest = rest

push_other : (t : ℕ) (es : List Event) (x : Event) → (thread_of x ≡ t → ⊥) → of_thread t (es ++ x ∷ []) ≡ of_thread t es
push_other t [] x apart = rw (ne_eqb (thread_of x) t apart) refl
push_other t (e ∷ es) x apart = by (thread_of e == t) (push_other t es x apart)
  where
    by : (b : Bool) → of_thread t (es ++ x ∷ []) ≡ of_thread t es → (if b then e ∷ of_thread t (es ++ x ∷ []) else of_thread t (es ++ x ∷ [])) ≡ (if b then e ∷ of_thread t es else of_thread t es)
    by true rest = ap (λ (l : List Event). e ∷ l) rest
    by false rest = rest

-- what the last event says of its thread
abbrev pub begun_by : ℕ → Event → Bool → Bool
begun_by t (Begin u c) before = if u == t then true else before
begun_by t (End u c r) before = if u == t then false else before

push_begun : (t : ℕ) (b : Bool) (es : List Event) (x : Event) → has_begun t b (es ++ x ∷ []) ≡ begun_by t x (has_begun t b es)
push_begun t b [] (Begin u c) = refl
push_begun t b [] (End u c r) = refl
push_begun t b (Begin u c ∷ es) x = push_begun t (if u == t then true else b) es x
push_begun t b (End u c r ∷ es) x = push_begun t (if u == t then false else b) es x

-- where no event of thread t stands behind its Begin, its call has begun
others_keep : (t : ℕ) (es : List Event) (x : Bool) → ((k : ℕ) (y : Event) → slice_get es k ≡ Some y → thread_of y ≢ t) → has_begun t x es ≡ x
others_keep t [] x none = refl
others_keep t (Begin u c ∷ es) x none = ap (λ b. has_begun t (if b then true else x) es) (ne_eqb u t (none 0 (Begin u c) refl)) ∙ others_keep t es x (λ k y at. none (suc k) y at)
others_keep t (End u c r ∷ es) x none = ap (λ b. has_begun t (if b then false else x) es) (ne_eqb u t (none 0 (End u c r) refl)) ∙ others_keep t es x (λ k y at. none (suc k) y at)

open_begin : (t : ℕ) (c : Call) (es : List Event) (x : Bool) (b : ℕ) → slice_get es b ≡ Some (Begin t c) → ((k : ℕ) (y : Event) → b < k → slice_get es k ≡ Some y → thread_of y ≢ t) → has_begun t x es ≡ true
open_begin t c [] x b at none = absurd (none-some (Begin t c) at)
open_begin t c (e ∷ es) x zero at none =
    subst (λ y. has_begun t x (y ∷ es) ≡ true) (sym (same_Some e (Begin t c) at))
    (ap (λ b. has_begun t (if b then true else x) es) (eq-eqb t t refl) ∙ others_keep t es true (λ k y there. none (suc k) y (omega arith) there))
open_begin t c (Begin u d ∷ es) x (suc b) at none = open_begin t c es (if u == t then true else x) b at (λ k y lt there. none (suc k) y (omega (arith, lt)) there)
open_begin t c (End u d r ∷ es) x (suc b) at none = open_begin t c es (if u == t then false else x) b at (λ k y lt there. none (suc k) y (omega (arith, lt)) there)

-- ---- programs

-- these events leave these calls of the program: behind them go what follows the calls
abbrev pub Leaves : List Event → List Call → List Call → Type 0
Leaves es calls program = (more : List Event) → Follows more calls → Follows (es ++ more) program

-- the thread is between two calls, or within one that has begun
pub data HasRun (t : ℕ) (program : List Call) (th : Thread Call) (es : List Event) : Type 0 where
  Between : th.begun ≡ None → Leaves es th.calls program → HasRun t program th es
  Within : (b : Begun) (before : List Event) (c : Call) (rest : List Call) → th.begun ≡ Some b → th.calls ≡ c ∷ rest → es ≡ before ++ Begin t c ∷ [] → Leaves before (c ∷ rest) program → HasRun t program th es

run_follows : (t : ℕ) (program : List Call) (th : Thread Call) (es : List Event) → HasRun t program th es → Follows es program
run_follows t program th es (Between none leaves) = subst (λ l. Follows l program) (append-nil es) (leaves [] tt)
run_follows t program th es (Within b before c rest begun calls are leaves) = subst (λ l. Follows l program) (sym are) (leaves (Begin t c ∷ []) refl)

run_starts : (t : ℕ) (program : List Call) (th : Thread Call) (es : List Event) (c : Call) (rest : List Call) (b : Begun) → th.calls ≡ c ∷ rest → th.begun ≡ None → HasRun t program th es → HasRun t program (record { calls = c ∷ rest; begun = Some b }) (es ++ Begin t c ∷ [])
run_starts t program th es c rest b calls none (Between idle leaves) = Within b es c rest refl refl refl (subst (λ l. Leaves es l program) calls leaves)
run_starts t program th es c rest b calls none (Within d before e more begun own are leaves) = absurd (none-some d (sym none ∙ begun))

run_ends : (t : ℕ) (program : List Call) (th : Thread Call) (es : List Event) (c : Call) (rest : List Call) (r : Reply) → th.calls ≡ c ∷ rest → HasRun t program th es → HasRun t program (record { calls = rest; begun = None }) (es ++ End t c r ∷ [])
run_ends t program th es c rest r calls (Between idle leaves) =
    Between refl (λ more follows. subst (λ l. Follows l program) (sym (append_assoc es (End t c r ∷ []) more)) (leaves (End t c r ∷ more) (subst (Follows (End t c r ∷ more)) (sym calls) (refl, follows))))
run_ends t program th es c rest r calls (Within d before e left begun own are leaves) =
    let both : e ∷ left ≡ c ∷ rest = sym own ∙ calls in
    let same : e ≡ c = ap (λ (l : List Call). elim l as (λ _. Call) [ [] ↦ c | y ∷ ys ↦ y ]) both in
    Between refl (λ more follows.
    subst (λ l. Follows l program) (ap (λ (x : Call). before ++ Begin t x ∷ End t c r ∷ more) same ∙ sym (append_assoc before (Begin t c ∷ []) (End t c r ∷ more)) ∙ ap (λ l. l ++ End t c r ∷ more) (ap (λ (x : Call). before ++ Begin t x ∷ []) (sym same) ∙ sym are) ∙ sym (append_assoc es (End t c r ∷ []) more))
    (leaves (Begin t e ∷ End t c r ∷ more) (subst (Follows (Begin t e ∷ End t c r ∷ more)) (sym both) (same, refl, follows))))

run_sends : (t : ℕ) (program : List Call) (th : Thread Call) (es : List Event) (c : Call) (rest : List Call) (b new : Begun) → th.calls ≡ c ∷ rest → th.begun ≡ Some b → HasRun t program th es → HasRun t program (record { calls = c ∷ rest; begun = Some new }) es
run_sends t program th es c rest b new calls begun (Between idle leaves) = absurd (none-some b (sym idle ∙ begun))
run_sends t program th es c rest b new calls begun (Within d before e left was own are leaves) =
    let both : e ∷ left ≡ c ∷ rest = sym own ∙ calls in
    Within new before e left refl (sym both) are leaves

-- ---- all threads

-- what the events say of thread t: none of one that is not there
pub record Shown (t : ℕ) (program : List Call) (th : Thread Call) (es : List Event) : Type 0 where
  pub run : HasRun t program th (of_thread t es)
  pub begun : has_begun t false es ≡ is_some th.begun

abbrev pub Tells : (ℕ → List Call) → ℕ → Option (Thread Call) → List (Entry Call Reply) → Type 0
Tells program t (Some th) h = Shown t (program t) th (events_in h)
Tells program t None h = of_thread t (events_in h) ≡ []

one_event : (h : List (Entry Call Reply)) (x : Entry Call Reply) → events_in (h ++ x ∷ []) ≡ events_in h ++ event_of x ∷ []
one_event h x = map-append event_of h (x ∷ [])

own_test : (t : ℕ) (x y : Bool) → (if t == t then x else y) ≡ x
own_test t x y = rw (eq-eqb t t refl) refl

other_test : (t u : ℕ) (x y : Bool) → t ≢ u → (if u == t then x else y) ≡ y
other_test t u x y apart = rw (ne_eqb u t (λ same. apart (sym same))) refl

thread_is : (u : ℕ) (c : Call) (what : What Reply) → thread_of (event_of (record { thread = u; call = c; what = what })) ≡ u
thread_is u c Begins = refl
thread_is u c (Ends e) = refl

pub begun_behind : (h : List (Entry Call Reply)) (b t : ℕ) (c : Call) → BeginsAt h b t c → NoneBetween h t b (length h) → has_begun t false (events_in h) ≡ true
begun_behind h b t c there last =
    open_begin t c (events_in h) false b (slice_get-map_some event_of h b (record { thread = t; call = c; what = Begins }) there)
    (λ k y lt at same.
    let x = map_some-slice_get event_of h k y at in
    last k x.0 lt (slice_get-length h k x.0 x.1) x.1 (sym (thread_is x.0.thread x.0.call x.0.what) ∙ ap thread_of x.2 ∙ same))

module _ (program : ℕ → List Call) where
  abbrev Told : ℕ → Option (Thread Call) → List (Entry Call Reply) → Type 0
  Told = Tells program

  told_sends : (t : ℕ) (th : Thread Call) (c : Call) (rest : List Call) (b new : Begun) (h : List (Entry Call Reply)) → th.calls ≡ c ∷ rest → th.begun ≡ Some b → Told t (Some th) h → Told t (Some (record { calls = c ∷ rest; begun = Some new })) h
  told_sends t th c rest b new h calls begun old = record {
    run = run_sends t (program t) th (of_thread t (events_in h)) c rest b new calls begun old.run;
    begun = old.begun ∙ ap is_some begun;
  }

  told_starts : (t : ℕ) (th : Thread Call) (c : Call) (rest : List Call) (b : Begun) (h : List (Entry Call Reply)) → th.calls ≡ c ∷ rest → th.begun ≡ None → Told t (Some th) h →
      Told t (Some (record { calls = c ∷ rest; begun = Some b })) (h ++ record { thread = t; call = c; what = Begins } ∷ [])
  told_starts t th c rest b h calls none old = record {
    run = subst (HasRun t (program t) (record { calls = c ∷ rest; begun = Some b }))
        (sym (ap (of_thread t) (one_event h (record { thread = t; call = c; what = Begins })) ∙ push_event t (events_in h) (Begin t c) refl))
        (run_starts t (program t) th (of_thread t (events_in h)) c rest b calls none old.run);
    begun = ap (has_begun t false) (one_event h (record { thread = t; call = c; what = Begins })) ∙ push_begun t false (events_in h) (Begin t c) ∙ own_test t true (has_begun t false (events_in h));
  }

  told_finishes : (t : ℕ) (th : Thread Call) (c : Call) (rest : List Call) (e : Ending Reply) (h : List (Entry Call Reply)) → th.calls ≡ c ∷ rest → Told t (Some th) h →
      Told t (Some (record { calls = rest; begun = None })) (h ++ record { thread = t; call = c; what = Ends e } ∷ [])
  told_finishes t th c rest e h calls old = record {
    run = subst (HasRun t (program t) (record { calls = rest; begun = None }))
        (sym (ap (of_thread t) (one_event h (record { thread = t; call = c; what = Ends e })) ∙ push_event t (events_in h) (End t c (reply_in e)) refl))
        (run_ends t (program t) th (of_thread t (events_in h)) c rest (reply_in e) calls old.run);
    begun = ap (has_begun t false) (one_event h (record { thread = t; call = c; what = Ends e })) ∙ push_begun t false (events_in h) (End t c (reply_in e)) ∙ own_test t false (has_begun t false (events_in h));
  }

  others_begun : (t u : ℕ) (c : Call) (what : What Reply) (before : Bool) → t ≢ u → begun_by t (event_of (record { thread = u; call = c; what = what })) before ≡ before
  others_begun t u c Begins before apart = other_test t u true before apart
  others_begun t u c (Ends e) before apart = other_test t u false before apart

  others_events : (t u : ℕ) (c : Call) (what : What Reply) (h : List (Entry Call Reply)) → t ≢ u → of_thread t (events_in (h ++ record { thread = u; call = c; what = what } ∷ [])) ≡ of_thread t (events_in h)
  others_events t u c what h apart =
      let x : Entry Call Reply = record { thread = u; call = c; what = what } in
      ap (of_thread t) (one_event h x) ∙ push_other t (events_in h) (event_of x) (λ same. apart (sym same ∙ thread_is u c what))

  told_others : (t u : ℕ) (x : Option (Thread Call)) (c : Call) (what : What Reply) (h : List (Entry Call Reply)) → t ≢ u → Told t x h → Told t x (h ++ record { thread = u; call = c; what = what } ∷ [])
  told_others t u None c what h apart old = others_events t u c what h apart ∙ old
  told_others t u (Some th) c what h apart old = record {
    run = subst (HasRun t (program t) th) (sym (others_events t u c what h apart)) old.run;
    begun = ap (has_begun t false) (one_event h (record { thread = u; call = c; what = what })) ∙ push_begun t false (events_in h) (event_of (record { thread = u; call = c; what = what })) ∙ others_begun t u c what (has_begun t false (events_in h)) apart ∙ old.begun;
  }

module _ {A T V : Type 0} (o : Over A T V Call Reply) (first : Host V Call Reply) (programs : List (List Call)) (empty : first.history ≡ []) (same : first.threads ≡ map (λ (p : List Call). record { calls = p; begun = None }) programs) where
  abbrev TellsOf : ℕ → Option (Thread Call) → List (Entry Call Reply) → Type 0
  TellsOf = Tells (program_of programs)

  at_start : (t : ℕ) → TellsOf t (slice_get first.threads t) first.history
  at_start t =
      subst (λ h. TellsOf t (slice_get first.threads t) h) (sym empty)
      (subst (λ x. TellsOf t x []) (sym (ap (λ l. slice_get l t) same ∙ slice_get-map (λ (p : List Call). record { calls = p; begun = None }) programs t)) (by (slice_get programs t) refl))
    where
      by : (x : Option (List Call)) → slice_get programs t ≡ x → TellsOf t (option_map (λ (p : List Call). record { calls = p; begun = None }) x) []
      by None e = refl
      by (Some p) e = record { run = Between refl (λ more follows. subst (Follows more) (sym (ap (λ y. unwrap_or y []) e)) follows); begun = refl }

  -- what the events of a run say of each of its threads
  pub told_in_run : (es : List runs.Event) (t : ℕ) → TellsOf t (slice_get (steps o first es).threads t) (steps o first es).history
  told_in_run es =
      all_keep o TellsOf (told_sends (program_of programs)) (told_starts (program_of programs)) (told_finishes (program_of programs)) (told_others (program_of programs)) first at_start es

  pub programs_followed : (es : List runs.Event) (t : ℕ) → Follows (of_thread t (events_in (steps o first es).history)) (program_of programs t)
  programs_followed es t = by (slice_get (steps o first es).threads t) (told_in_run es t)
    where
      by : (x : Option (Thread Call)) → TellsOf t x (steps o first es).history → Follows (of_thread t (events_in (steps o first es).history)) (program_of programs t)
      by None none = subst (λ l. Follows l (program_of programs t)) (sym none) tt
      by (Some th) told = run_follows t (program_of programs t) th (of_thread t (events_in (steps o first es).history)) told.run

  -- whether a thread's call has begun
  pub begun_is : (es : List runs.Event) (t : ℕ) (th : Thread Call) → slice_get (steps o first es).threads t ≡ Some th → has_begun t false (events_in (steps o first es).history) ≡ is_some th.begun
  begun_is es t th at = (subst (λ x. TellsOf t x (steps o first es).history) at (told_in_run es t)).begun
