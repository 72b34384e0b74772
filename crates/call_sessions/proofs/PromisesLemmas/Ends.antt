-- Where an entry stands, its step and its reason.
use Rattle.std.proofs.Common.{◌≡◌, ℕ, ◌≤◌, Bool, true, List, [], ◌∷◌, ◌++◌, length, Some, None, slice_get, ap, subst, ◌∙◌, arith}
use Rattle.flush_actor.specs.Kinds.{is_begun}
use Rattle.host_machine.specs.Host.{advance, ended_by}
use Rattle.host_machine.specs.State.{What, Ending, Begins, Ends, Thread, Entry, Host}
use Rattle.host_machine.specs.laws.Contract.{Over}
use Rattle.host_machine.specs.runs.Runs.{Event, Call, steps}
use Rattle.call_sessions.specs.promises.Entries.{BeginsAt, EndsAt}
use Rattle.call_sessions.proofs.PromisesLemmas.CallerSteps.{EndReason}
use Rattle.call_sessions.proofs.PromisesLemmas.Origins.{Origin, Makes, Begun_by, Ended_by, origin_of}

abbrev ending_or : {R : Type 0} → Ending R → What R → Ending R
ending_or d Begins = d
ending_or d (Ends e) = e

module _ {A T V C R : Type 0} (o : Over A T V C R) (first : Host V C R) where
  -- the step of thread t behind the steps `before`, which is one of these
  pub record StepAt (events : List Event) (i t : ℕ) : Type 0 where
    pub before : List Event
    pub after : List Event
    pub full : Bool
    pub split : events ≡ before ++ Call full t ∷ after
    pub place : length (steps o first before).history ≡ i

  -- the entry at place i ends call c, which was the first of its thread
  pub record Ended (events : List Event) (i t : ℕ) (c : C) (e : Ending R) : Type 0 where
    pub step : StepAt events i t
    pub own : Thread C
    pub rest : List C
    pub at : slice_get (steps o first step.before).threads t ≡ Some own
    pub calls : own.calls ≡ c ∷ rest
    pub reason : EndReason o.model o.setup (steps o first step.before) c own.begun e
    pub said : (advance o.model o.setup step.full (steps o first step.before) t).step ≡ ended_by o.model o.setup e

  pub record Began (events : List Event) (i t : ℕ) (c : C) : Type 0 where
    pub step : StepAt events i t
    pub own : Thread C
    pub rest : List C
    pub at : slice_get (steps o first step.before).threads t ≡ Some own
    pub calls : own.calls ≡ c ∷ rest
    pub idle : own.begun ≡ None
    pub reply : o.model.reply (steps o first step.before).volume c ≡ None
    pub kind : is_begun (o.model.kind c) ≡ true

  abbrev step_of : (events : List Event) (i t : ℕ) (x : Entry C R) (org : Origin o first events i x) → org.thread ≡ t → StepAt events i t
  step_of events i t x org one = record {
    before = org.before;
    after = org.after;
    full = org.full;
    split = subst (λ u. events ≡ org.before ++ Call org.full u ∷ org.after) one org.split;
    place = org.place;
  }

  module _ (empty : first.history ≡ []) (events : List Event) (i t : ℕ) (c : C) where
    none_before : length first.history ≤ i
    none_before = (let l = ap length empty in omega (arith, l))

    pub ended_at : (e : Ending R) → EndsAt (steps o first events).history i t c e → Ended events i t c e
    ended_at e there = by org.made
      where
        org : Origin o first events i (record { thread = t; call = c; what = Ends e })
        org = origin_of o first events i (record { thread = t; call = c; what = Ends e }) there none_before

        by : Makes o (steps o first org.before) org.full org.thread (record { thread = t; call = c; what = Ends e }) → Ended events i t c e
        by (Begun_by th d rest at calls idle reply kind same) = absurd (let never : ◌≡◌ {A = What R} Begins (Ends e) = ap (λ (x : Entry C R). x.what) same in cc never)
        by (Ended_by th d rest f at calls reason said same) =
            let one : org.thread ≡ t = ap (λ (x : Entry C R). x.thread) same in
            let call : d ≡ c = ap (λ (x : Entry C R). x.call) same in
            let ending : f ≡ e = ap (λ (x : Entry C R). ending_or f x.what) same in
            let s = steps o first org.before in
            record {
              step = step_of events i t (record { thread = t; call = c; what = Ends e }) org one;
              own = th;
              rest = rest;
              at = subst (λ u. slice_get s.threads u ≡ Some th) one at;
              calls = subst (λ x. th.calls ≡ x ∷ rest) call calls;
              reason = subst (λ x. EndReason o.model o.setup s c th.begun x) ending (subst (λ x. EndReason o.model o.setup s x th.begun f) call reason);
              said = subst (λ u. (advance o.model o.setup org.full s u).step ≡ ended_by o.model o.setup e) one (said ∙ ap (ended_by o.model o.setup) ending);
            }

    pub began_at : BeginsAt (steps o first events).history i t c → Began events i t c
    began_at there = by org.made
      where
        org : Origin o first events i (record { thread = t; call = c; what = Begins })
        org = origin_of o first events i (record { thread = t; call = c; what = Begins }) there none_before

        by : Makes o (steps o first org.before) org.full org.thread (record { thread = t; call = c; what = Begins }) → Began events i t c
        by (Ended_by th d rest f at calls reason said same) = absurd (let never : ◌≡◌ {A = What R} (Ends f) Begins = ap (λ (x : Entry C R). x.what) same in cc never)
        by (Begun_by th d rest at calls idle reply kind same) =
            let one : org.thread ≡ t = ap (λ (x : Entry C R). x.thread) same in
            let call : d ≡ c = ap (λ (x : Entry C R). x.call) same in
            let s = steps o first org.before in
            record {
              step = step_of events i t (record { thread = t; call = c; what = Begins }) org one;
              own = th;
              rest = rest;
              at = subst (λ u. slice_get s.threads u ≡ Some th) one at;
              calls = subst (λ x. th.calls ≡ x ∷ rest) call calls;
              idle = idle;
              reply = subst (λ x. o.model.reply s.volume x ≡ None) call reply;
              kind = subst (λ x. is_begun (o.model.kind x) ≡ true) call kind;
            }
