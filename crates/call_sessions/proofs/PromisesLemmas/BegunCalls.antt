-- Each begun call has its Begin in the history, as the last entry of its thread.
use Rattle.std.proofs.Common.{◌≡◌, ◌≢◌, ◌⊎◌, inl, inr, ℕ, map, ◌+◌, ◌<◌, Bool, List, [], ◌∷◌, ◌++◌, length, set, Some, None, slice_get, refl, sym, ap, subst, ◌∙◌, arith, ⊎_elim, append_assoc}
use Rattle.std.proofs.lemmas.Bool.{cases_eq}
use Rattle.std.proofs.lemmas.List.{append-nil, length-append, length-set}
use Rattle.std.proofs.lemmas.Option.{none-some, same_Some}
use Rattle.blk_base.specs.laws.Members.{slice_get-push_cases, slice_get-length, slice_get-push, slice_get-push_left, slice_get-set_same, slice_get-set_other, In-map, slice_get-In}
use Rattle.host_machine.specs.Host.{Stepped, advance}
use Rattle.host_machine.specs.State.{What, Begins, Ends, Begun, Thread, Entry, Host}
use Rattle.host_machine.specs.laws.Contract.{Over}
use Rattle.host_machine.specs.runs.Runs.{Event, Call, Commit, WriteBack, FlushStep, TakeStep, stepped, steps}
use Rattle.call_sessions.specs.promises.Entries.{BeginsAt, NoneBetween}
use Rattle.call_sessions.proofs.PromisesLemmas.CallerSteps.{CallStep, Rests, Sends, Starts, Finishes, ThreadStep, Over as NoCall, Calls, caller_step}
use Rattle.call_sessions.proofs.PromisesLemmas.HostSteps.{commit_quiet, writeback_quiet, flush_quiet, take_quiet}
use Rattle.call_sessions.proofs.PromisesLemmas.Growing.{Extends, one_more, extends_on}
use Rattle.call_sessions.proofs.PromisesLemmas.Origins.{steps_append}

-- ---- lists

-- where a list of elements was set at one place
set_cases : {X : Type 0} (xs : List X) (i j : ℕ) (y x : X) → slice_get (set xs i y) j ≡ Some x → ((j ≡ i) × (y ≡ x)) ⊎ ((j ≢ i) × (slice_get xs j ≡ Some x))
set_cases xs i j y x at = ⊎_elim (λ same. inl (same, here same)) (λ other. inr (other, sym (slice_get-set_other xs i j y other) ∙ at)) (cases_eq j i)
  where
    here : j ≡ i → y ≡ x
    here same =
        let there : slice_get (set xs i y) i ≡ Some x = ap (slice_get (set xs i y)) (sym same) ∙ at in
        let lt : i < length xs = (let l = slice_get-length (set xs i y) i x there in let e = length-set xs i y in omega (arith, l, e)) in
        same_Some y x (sym (slice_get-set_same xs i y lt) ∙ there)

module _ {A T V C R : Type 0} (o : Over A T V C R) (first : Host V C R) where
  -- a thread's call began as b, behind the steps `before`
  pub record Start (th : Thread C) (b : Begun) : Type 0 where
    pub call : C
    pub rest : List C
    pub calls : th.calls ≡ call ∷ rest
    pub before : List Event
    pub number : b.begin ≡ length (steps o first before).history + 1
    pub kind : b.kind ≡ o.model.kind call
    pub file : b.file ≡ o.model.node (steps o first before).volume call

  -- so many entries were there then
  abbrev pub place_of : {th : Thread C} {b : Begun} → Start th b → ℕ
  place_of s = length (steps o first s.before).history

  -- and its Begin is the last entry of the thread
  pub record InCall (h : Host V C R) (t : ℕ) (th : Thread C) (b : Begun) : Type 0 where
    pub start : Start th b
    pub whole : Extends (steps o first start.before).history h.history
    pub entry : BeginsAt h.history (place_of start) t start.call
    pub last : NoneBetween h.history t (place_of start) (length h.history)

  abbrev pub AreInCall : Host V C R → Type 0
  AreInCall h = (t : ℕ) (th : Thread C) (b : Begun) → slice_get h.threads t ≡ Some th → th.begun ≡ Some b → InCall h t th b

  -- what it reads of a host are its entries
  same_entries : (h g : Host V C R) (t : ℕ) (th : Thread C) (b : Begun) → g.history ≡ h.history → InCall h t th b → InCall g t th b
  same_entries h g t th b same i = record {
    start = i.start;
    whole = subst (Extends (steps o first i.start.before).history) (sym same) i.whole;
    entry = ap (λ l. slice_get l (place_of i.start)) same ∙ i.entry;
    last = λ k x low high at. i.last k x low (let l = ap length same in omega (arith, l, high)) (ap (λ l. slice_get l k) (sym same) ∙ at);
  }

  -- an entry of another thread
  other_entry : (h g : Host V C R) (t u : ℕ) (c : C) (what : What R) (th : Thread C) (b : Begun) → g.history ≡ h.history ++ record { thread = u; call = c; what = what } ∷ [] → t ≢ u → InCall h t th b → InCall g t th b
  other_entry h g t u c what th b more apart i =
      let e : Entry C R = record { thread = u; call = c; what = what } in
      let there = slice_get-length h.history (place_of i.start) _ i.entry in
      record {
        start = i.start;
        whole = subst (Extends (steps o first i.start.before).history) (sym more) (extends_on (steps o first i.start.before).history h.history (h.history ++ e ∷ []) i.whole (one_more h.history e));
        entry = ap (λ l. slice_get l (place_of i.start)) more ∙ slice_get-push_left h.history e (place_of i.start) there ∙ i.entry;
        last = λ k x low high at.
            ⊎_elim
            (λ old. i.last k x low (slice_get-length h.history k x old) old)
            (λ new same. apart (sym same ∙ ap (λ (y : Entry C R). y.thread) (sym new.1)))
            (slice_get-push_cases h.history e k x (ap (λ l. slice_get l k) (sym more) ∙ at));
      }

  module _ (done : List Event) (e : Event) (old : AreInCall (steps o first done)) where
    abbrev h : Host V C R
    h = steps o first done

    quiet_step : (g : Host V C R) → g.history ≡ h.history → g.threads ≡ h.threads → AreInCall g
    quiet_step g history threads t th b at begun = same_entries h g t th b history (old t th b (ap (λ l. slice_get l t) (sym threads) ∙ at) begun)

    -- the same call, that goes on
    goes_on : (g : Host V C R) (t : ℕ) (th : Thread C) (c : C) (rest : List C) (b new : Begun) → slice_get h.threads t ≡ Some th → th.calls ≡ c ∷ rest → th.begun ≡ Some b →
        (new.begin ≡ b.begin) × (new.kind ≡ b.kind) × (new.file ≡ b.file) → g.history ≡ h.history → InCall g t (record { calls = c ∷ rest; begun = Some new }) new
    goes_on g t th c rest b new at calls begun stays same =
        let i = same_entries h g t th b same (old t th b at begun) in
        let was = i.start in
        record {
          start = record {
            call = was.call;
            rest = was.rest;
            calls = sym calls ∙ was.calls;
            before = was.before;
            number = stays.0 ∙ was.number;
            kind = stays.1 ∙ was.kind;
            file = stays.2 ∙ was.file;
          };
          whole = i.whole;
          entry = i.entry;
          last = i.last;
        }

    starts_now : (g : Host V C R) (t : ℕ) (c : C) (rest : List C) (b : Begun) → (b.begin ≡ length h.history + 1) × (b.kind ≡ o.model.kind c) × (b.file ≡ o.model.node h.volume c) →
        g.history ≡ h.history ++ record { thread = t; call = c; what = Begins } ∷ [] → InCall g t (record { calls = c ∷ rest; begun = Some b }) b
    starts_now g t c rest b is more =
        let e : Entry C R = record { thread = t; call = c; what = Begins } in
        record {
          start = record { call = c; rest = rest; calls = refl; before = done; number = is.0; kind = is.1; file = is.2 };
          whole = subst (Extends h.history) (sym more) (one_more h.history e);
          entry = ap (λ l. slice_get l (length h.history)) more ∙ slice_get-push h.history e;
          last = λ k x low high at. (let l = ap length more ∙ length-append h.history (e ∷ []) in absurd (omega (arith, l, low, high)));
        }

    call_step_keeps : (t : ℕ) (th : Thread C) (c : C) (rest : List C) (x : Stepped V C R) → slice_get h.threads t ≡ Some th → th.calls ≡ c ∷ rest → CallStep o.model o.setup h t c rest th.begun x → AreInCall x.host
    call_step_keeps t th c rest x at calls (Rests same threads) u other d there begun = quiet_step x.host same threads u other d there begun
    call_step_keeps t th c rest x at calls (Sends b new was stays same threads) u other d there begun =
        ⊎_elim
        (λ is.
        let sent : new ≡ d = same_Some new d (ap (λ (y : Thread C). y.begun) is.1 ∙ begun) in
        subst (λ n. InCall x.host n other d) (sym is.0)
        (subst (λ (n : Begun). InCall x.host t other n) sent
        (subst (λ (n : Thread C). InCall x.host t n new) is.1 (goes_on x.host t th c rest b new at calls was stays same))))
        (λ apart. same_entries h x.host u other d same (old u other d apart.1 begun))
        (set_cases h.threads t u (record { calls = c ∷ rest; begun = Some new }) other (ap (λ l. slice_get l u) (sym threads) ∙ there))
    call_step_keeps t th c rest x at calls (Starts b none reply kind is more threads) u other d there begun =
        ⊎_elim
        (λ i.
        let same : b ≡ d = same_Some b d (ap (λ (y : Thread C). y.begun) i.1 ∙ begun) in
        subst (λ n. InCall x.host n other d) (sym i.0)
        (subst (λ (n : Begun). InCall x.host t other n) same
        (subst (λ (n : Thread C). InCall x.host t n b) i.1 (starts_now x.host t c rest b is more))))
        (λ apart. other_entry h x.host u t c Begins other d more apart.0 (old u other d apart.1 begun))
        (set_cases h.threads t u (record { calls = c ∷ rest; begun = Some b }) other (ap (λ l. slice_get l u) (sym threads) ∙ there))
    call_step_keeps t th c rest x at calls (Finishes e why said more threads) u other d there begun =
        ⊎_elim
        (λ i. absurd (none-some d (ap (λ (y : Thread C). y.begun) i.1 ∙ begun)))
        (λ apart. other_entry h x.host u t c (Ends e) other d more apart.0 (old u other d apart.1 begun))
        (set_cases h.threads t u (record { calls = rest; begun = None }) other (ap (λ l. slice_get l u) (sym threads) ∙ there))

    step_keeps_calls : AreInCall (stepped o h e)
    step_keeps_calls = by e
      where
        called : (full : Bool) (t : ℕ) → ThreadStep o.model o.setup h full t (advance o.model o.setup full h t) → AreInCall (advance o.model o.setup full h t).host
        called full t (NoCall same threads) = quiet_step (advance o.model o.setup full h t).host same threads
        called full t (Calls th c rest at calls step) = call_step_keeps t th c rest (advance o.model o.setup full h t) at calls step

        by : (e : Event) → AreInCall (stepped o h e)
        by (Call full t) = called full t (caller_step o.model o.setup h full t)
        by (Commit full) = (let q = commit_quiet o.model o.setup h full in quiet_step (stepped o h (Commit full)) q.history q.threads)
        by (WriteBack full pick) = (let q = writeback_quiet o.model o.setup h full pick in quiet_step (stepped o h (WriteBack full pick)) q.history q.threads)
        by (FlushStep full next) = (let q = flush_quiet o.model o.setup h full next in quiet_step (stepped o h (FlushStep full next)) q.history q.threads)
        by (TakeStep next) = (let q = take_quiet o.model o.setup h next in quiet_step (stepped o h (TakeStep next)) q.history q.threads)

  pub runs_keep_calls : (done es : List Event) → AreInCall (steps o first done) → AreInCall (steps o first (done ++ es))
  runs_keep_calls done [] old = subst (λ l. AreInCall (steps o first l)) (sym (append-nil done)) old
  runs_keep_calls done (e ∷ es) old =
      subst (λ l. AreInCall (steps o first l)) (append_assoc done (e ∷ []) es)
      (runs_keep_calls (done ++ e ∷ []) es (subst AreInCall (sym (steps_append o first done (e ∷ []))) (step_keeps_calls done e old)))

-- no call has begun where a host is opened
none_in_program : {C : Type 0} (programs : List (List C)) (t : ℕ) (th : Thread C) → slice_get (map (λ (p : List C). record { calls = p; begun = None }) programs) t ≡ Some th → th.begun ≡ None
none_in_program {C = C} programs t th at =
    let i = In-map (λ (p : List C). record { calls = p; begun = None }) programs th (slice_get-In (map (λ (p : List C). record { calls = p; begun = None }) programs) t th at) in
    ap (λ (y : Thread C). y.begun) (sym i.2)

-- so a begun call of any run from there has its Begin
pub begun_in_run : {A T V C R : Type 0} (o : Over A T V C R) (first : Host V C R) (programs : List (List C)) → first.threads ≡ map (λ (p : List C). record { calls = p; begun = None }) programs → (es : List Event) → AreInCall o first (steps o first es)
begun_in_run o first programs same es = runs_keep_calls o first [] es (λ t th b at begun. absurd (none-some b (sym (none_in_program programs t th (ap (λ l. slice_get l t) (sym same) ∙ at)) ∙ begun)))
