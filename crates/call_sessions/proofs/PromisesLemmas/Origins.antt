-- Each entry of a history comes from a caller's step, and what stood there at that step stands still.
use Rattle.std.proofs.Common.{◌≡◌, ℕ, ◌+◌, ◌≤◌, Bool, true, List, [], ◌∷◌, ◌++◌, length, Some, None, slice_get, refl, sym, ap, subst, ◌∙◌, arith, ⊎_elim}
use Rattle.std.proofs.lemmas.Bool.{cases_lt}
use Rattle.std.proofs.lemmas.Option.{same_Some}
use Rattle.std.proofs.lemmas.List.{length-append}
use Rattle.blk_base.specs.laws.Members.{slice_get-length, slice_get-push}
use Rattle.flush_actor.specs.Kinds.{is_begun}
use Rattle.host_machine.specs.Host.{advance, ended_by}
use Rattle.host_machine.specs.State.{Ending, Begins, Ends, Thread, Entry, Host}
use Rattle.host_machine.specs.laws.Contract.{Over}
use Rattle.host_machine.specs.runs.Runs.{Event, Call, Commit, WriteBack, FlushStep, TakeStep, stepped, steps}
use Rattle.call_sessions.proofs.PromisesLemmas.CallerSteps.{EndReason, Rests, Sends, Starts, Finishes, ThreadStep, Over as NoCall, Calls, caller_step}
use Rattle.call_sessions.proofs.PromisesLemmas.Growing.{Extends, same_list, one_more, extends_on, extended_place}
use Rattle.call_sessions.proofs.PromisesLemmas.HostSteps.{commit_quiet, writeback_quiet, flush_quiet, take_quiet}

module _ {A T V C R : Type 0} (o : Over A T V C R) where
  -- thread t of the host makes this entry
  pub data Makes (s : Host V C R) (full : Bool) (t : ℕ) (x : Entry C R) : Type 0 where
    Begun_by : (th : Thread C) (c : C) (rest : List C) → slice_get s.threads t ≡ Some th → th.calls ≡ c ∷ rest → th.begun ≡ None → o.model.reply s.volume c ≡ None → is_begun (o.model.kind c) ≡ true
        → record { thread = t; call = c; what = Begins } ≡ x → Makes s full t x
    Ended_by : (th : Thread C) (c : C) (rest : List C) (e : Ending R) → slice_get s.threads t ≡ Some th → th.calls ≡ c ∷ rest → EndReason o.model o.setup s c th.begun e
        → (advance o.model o.setup full s t).step ≡ ended_by o.model o.setup e
        → record { thread = t; call = c; what = Ends e } ≡ x → Makes s full t x

  -- a step makes no entry, or a caller's step makes this one
  pub data StepMakes (s : Host V C R) (e : Event) : Type 0 where
    Nothing : (stepped o s e).history ≡ s.history → StepMakes s e
    One : (full : Bool) (t : ℕ) (x : Entry C R) → e ≡ Call full t → (stepped o s e).history ≡ s.history ++ x ∷ [] → Makes s full t x → StepMakes s e

  pub step_makes : (s : Host V C R) (e : Event) → StepMakes s e
  step_makes s (Commit full) = Nothing (commit_quiet o.model o.setup s full).history
  step_makes s (WriteBack full pick) = Nothing (writeback_quiet o.model o.setup s full pick).history
  step_makes s (FlushStep full next) = Nothing (flush_quiet o.model o.setup s full next).history
  step_makes s (TakeStep next) = Nothing (take_quiet o.model o.setup s next).history
  step_makes s (Call full t) = by (caller_step o.model o.setup s full t)
    where
      by : ThreadStep o.model o.setup s full t (advance o.model o.setup full s t) → StepMakes s (Call full t)
      by (NoCall same threads) = Nothing same
      by (Calls th c rest at calls (Rests same threads)) = Nothing same
      by (Calls th c rest at calls (Sends b new was stays same threads)) = Nothing same
      by (Calls th c rest at calls (Starts b none reply kind is more threads)) = One full t (record { thread = t; call = c; what = Begins }) refl more (Begun_by th c rest at calls none reply kind refl)
      by (Calls th c rest at calls (Finishes e why said more threads)) = One full t (record { thread = t; call = c; what = Ends e }) refl more (Ended_by th c rest e at calls why said refl)

  -- the entry x at place i was made behind the steps `before`, by a step of thread t
  pub record Origin (first : Host V C R) (events : List Event) (i : ℕ) (x : Entry C R) : Type 0 where
    pub before : List Event
    pub after : List Event
    pub full : Bool
    pub thread : ℕ
    pub split : events ≡ before ++ Call full thread ∷ after
    pub place : length (steps o first before).history ≡ i
    pub made : Makes (steps o first before) full thread x

  pub steps_append : (h : Host V C R) (xs ys : List Event) → steps o h (xs ++ ys) ≡ steps o (steps o h xs) ys
  steps_append h [] ys = refl
  steps_append h (x ∷ xs) ys = steps_append (stepped o h x) xs ys

  one_extends : (s : Host V C R) (e : Event) → StepMakes s e → Extends s.history (stepped o s e).history
  one_extends s e (Nothing same) = subst (Extends s.history) (sym same) (same_list s.history)
  one_extends s e (One full t x is more made) = subst (Extends s.history) (sym more) (one_more s.history x)

  -- entries stay
  pub history_extends : (s : Host V C R) (es : List Event) → Extends s.history (steps o s es).history
  history_extends s [] = same_list s.history
  history_extends s (e ∷ es) =
      extends_on s.history (stepped o s e).history (steps o (stepped o s e) es).history (one_extends s e (step_makes s e)) (history_extends (stepped o s e) es)

  -- an entry that was not there at first has an origin
  pub origin_of : (first : Host V C R) (events : List Event) (i : ℕ) (x : Entry C R) → slice_get (steps o first events).history i ≡ Some x → length first.history ≤ i → Origin first events i x
  origin_of first [] i x at le = (let lt = slice_get-length first.history i x at in absurd (omega (arith, lt, le)))
  origin_of first (e ∷ es) i x at le = by (origin_of (stepped o first e) es i x at) (step_makes first e)
    where
      later : Origin (stepped o first e) es i x → Origin first (e ∷ es) i x
      later r =
          record { before = e ∷ r.before; after = r.after; full = r.full; thread = r.thread; split = ap (λ (l : List Event). e ∷ l) r.split; place = r.place; made = r.made }

      here : (full : Bool) (t : ℕ) (y : Entry C R) → e ≡ Call full t → (stepped o first e).history ≡ first.history ++ y ∷ [] → Makes first full t y → i ≡ length first.history → y ≡ x → Origin first (e ∷ es) i x
      here full t y is more made place same =
          record { before = []; after = es; full = full; thread = t; split = ap (λ (z : Event). z ∷ es) is; place = sym place; made = subst (Makes first full t) same made }

      by : (length (stepped o first e).history ≤ i → Origin (stepped o first e) es i x) → StepMakes first e → Origin first (e ∷ es) i x
      by behind (Nothing same) = later (behind (let l = ap length same in omega (arith, l, le)))
      by behind (One full t y is more made) =
          ⊎_elim
          (λ lt. later (behind (let l = ap length more ∙ length-append first.history (y ∷ []) in omega (arith, l, lt))))
          (λ high.
          let place : i ≡ length first.history = omega (arith, high, le) in
          let l : length (stepped o first e).history ≡ length first.history + 1 = ap length more ∙ length-append first.history (y ∷ []) in
          let old = extended_place (stepped o first e).history (steps o (stepped o first e) es).history (history_extends (stepped o first e) es) i (omega (arith, l, place)) in
          let there : slice_get (stepped o first e).history i ≡ Some y = ap (λ h. slice_get h i) more ∙ ap (slice_get (first.history ++ y ∷ [])) place ∙ slice_get-push first.history y in
          here full t y is more made place (same_Some y x (sym there ∙ sym old ∙ at)))
          (cases_lt (length first.history) i)
