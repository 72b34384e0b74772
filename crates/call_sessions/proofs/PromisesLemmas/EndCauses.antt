-- The cause of each end stands when it is made, and stays.
use Rattle.std.proofs.Common.{◌<◌, ◌⊎◌, inl, inr, ◌≡◌, ℕ, Bool, true, false, List, [], ◌∷◌, ◌++◌, length, take, Option, Some, None, option_map, refl, sym, ap, subst, ◌∙◌, arith, if◌then◌else◌}
use Rattle.std.specs.List.{list_any}
use Rattle.std.proofs.lemmas.Bool.{leb-true, true≢false, false_from_ne_true}
use Rattle.std.proofs.lemmas.List.{take_at}
use Rattle.std.proofs.lemmas.Option.{none-some, same_Some}
use Rattle.blk_base.specs.Members.{In}
use Rattle.blk_base.specs.laws.Members.{list_any-In, In-append_left, In-list_any, slice_get-In}
use Rattle.order_model.specs.declared.completion.Completion.TheVariants as completions
use Rattle.order_model.specs.declared.completion.Completion.{Completion}
use Rattle.flush_actor.specs.Kinds.{is_begun, is_reading}
use Rattle.flush_actor.specs.Part.{is_cut, first_failed, at_limit}
use Rattle.flush_actor.specs.declared.call_kind.CallKind.{CallKind}
use Rattle.flush_actor.specs.declared.call_kind.CallKind.TheVariants.{Reading, Changing, FileBarrier, DataBarrier, FileSync, DataSync, WholeSync}
use Rattle.host_machine.specs.Host.{stop_of}
use Rattle.host_machine.specs.Model.{Model}
use Rattle.host_machine.specs.State.{Ending, Answered, Down, ReadOnly, SessionFull, Begun, Host, Setup}
use Rattle.host_machine.specs.laws.Contract.{Over}
use Rattle.host_machine.specs.runs.Runs.{Event, Call, AreBegun, steps}
use Rattle.host_machine.specs.runs.laws.Traces.{trace_of}
use Rattle.call_sessions.specs.promises.Entries.{EndsAt}
use Rattle.call_sessions.specs.promises.Causes.{HadCome, HaveCauses}
use Rattle.call_sessions.proofs.PromisesLemmas.CallerSteps.{EndReason, Stopped, Refused, Acted, Full, Acknowledged}
use Rattle.call_sessions.proofs.PromisesLemmas.Ends.{StepAt, Ended, ended_at}
use Rattle.call_sessions.proofs.PromisesLemmas.Growing.{extended_place, Grows, run_grows, stay_begun}
use Rattle.call_sessions.proofs.PromisesLemmas.Origins.{steps_append}

-- ---- completions

cut_is : (c : Completion) → is_cut c ≡ true → c ≡ completions.Cut
cut_is completions.Cut e = refl
cut_is (completions.Moved id) e = absurd (true≢false (sym e))
cut_is (completions.Flushed id) e = absurd (true≢false (sym e))
cut_is (completions.Failed id) e = absurd (true≢false (sym e))

cut_in : (taken : List Completion) → list_any is_cut taken ≡ true → In completions.Cut taken
cut_in taken e = (let i = In-list_any is_cut taken e in subst (λ c. In c taken) (cut_is i.0 i.2) i.1)

-- the first failed one stays the first
pub failed_stays : (taken more : List Completion) (id : ℕ) → first_failed taken ≡ Some id → first_failed (taken ++ more) ≡ Some id
failed_stays [] more id e = absurd (none-some id e)
failed_stays (completions.Failed i ∷ cs) more id e = e
failed_stays (completions.Moved i ∷ cs) more id e = failed_stays cs more id e
failed_stays (completions.Flushed i ∷ cs) more id e = failed_stays cs more id e
failed_stays (completions.Cut ∷ cs) more id e = failed_stays cs more id e

-- ---- what stops a call

-- it stops by a Cut; or, where it does not only read, by the first failed one
pub data StopCause {R : Type 0} (taken : List Completion) (kind : CallKind) (e : Ending R) : Type 0 where
  ByCut : list_any is_cut taken ≡ true → e ≡ Down → StopCause taken kind e
  ByFailure : (id : ℕ) → first_failed taken ≡ Some id → is_reading kind ≡ false → e ≡ ReadOnly id → StopCause taken kind e

module _ {T V C R : Type 0} (M : Model T V C R) (u : Setup) where
  pub stop_cause : (taken : List Completion) (kind : CallKind) (e : Ending R) → stop_of M u taken kind ≡ Some e → StopCause taken kind e
  stop_cause taken kind e stop = by (list_any is_cut taken) refl stop
    where
      failed : is_reading kind ≡ false → (f : Option ℕ) → first_failed taken ≡ f → option_map ReadOnly f ≡ Some e → StopCause taken kind e
      failed writes None is d = absurd (none-some e d)
      failed writes (Some id) is d = ByFailure id is writes (sym (same_Some (ReadOnly id) e d))

      reads : (r : Bool) → is_reading kind ≡ r → (if r then None else option_map ReadOnly (first_failed taken)) ≡ Some e → StopCause taken kind e
      reads true is d = absurd (none-some e d)
      reads false is d = failed is (first_failed taken) refl d

      by : (b : Bool) → list_any is_cut taken ≡ b → (if b then Some Down else if is_reading kind then None else option_map ReadOnly (first_failed taken)) ≡ Some e → StopCause taken kind e
      by true is d = ByCut is (sym (same_Some Down e d))
      by false is d = reads (is_reading kind) refl d

-- barrier and sync calls do not only read
pub begun_writes : (k : CallKind) → is_begun k ≡ true → is_reading k ≡ false
begun_writes Reading e = sym e
begun_writes Changing e = refl
begun_writes FileBarrier e = refl
begun_writes DataBarrier e = refl
begun_writes FileSync e = refl
begun_writes DataSync e = refl
begun_writes WholeSync e = refl

-- ---- ends

module _ {A T V C R : Type 0} (o : Over A T V C R) (first : Host V C R) (empty : first.history ≡ []) (none : first.journal.flush.requests ≡ []) (begun : AreBegun o.model.kind first.threads) where
  -- what was there at a step is a beginning of what is there
  pub grown_from : (events : List Event) (i t : ℕ) (s : StepAt o first events i t) → Grows (trace_of (steps o first s.before)) (trace_of (steps o first events))
  grown_from events i t s =
      subst (λ h. Grows (trace_of (steps o first s.before)) (trace_of h)) (sym (ap (steps o first) s.split ∙ steps_append o first s.before (Call s.full t ∷ s.after)))
      (run_grows o (steps o first s.before) (stay_begun o first begun s.before) (Call s.full t ∷ s.after))

  module _ (events : List Event) (i t : ℕ) (c : C) where
    -- the completions that were taken when it ended
    abbrev taken_at : StepAt o first events i t → List Completion
    taken_at s = (steps o first s.before).journal.flush.taken

    stop_kept : (e : Ending R) (s : StepAt o first events i t) → stop_of o.model o.setup (taken_at s) (o.model.kind c) ≡ Some e → StopCause (taken_at s) (o.model.kind c) e
    stop_kept e s stop = stop_cause o.model o.setup (taken_at s) (o.model.kind c) e stop

    -- and requests submitted; these are the first of all
    come : (s : StepAt o first events i t) → HadCome (steps o first) events i (length (taken_at s)) (length (steps o first s.before).journal.flush.requests)
    come s = record { before = s.before; after = Call s.full t ∷ s.after; split = s.split; entries = s.place; took = refl; sent = refl }

    first_taken : (s : StepAt o first events i t) → take (length (taken_at s)) (steps o first events).journal.flush.taken ≡ taken_at s
    first_taken s =
        let g = (grown_from events i t s).taken in
        ap (take (length (taken_at s))) g.are ∙ take_at (taken_at s) g.more (length (taken_at s)) refl

    cut_by_then : EndsAt (steps o first events).history i t c Down → (s : StepAt o first events i t) × In completions.Cut (taken_at s)
    cut_by_then there = (x.step, by x.reason)
      where
        x : Ended o first events i t c Down
        x = ended_at o first empty events i t c Down there

        stopped : StopCause {R = R} (taken_at x.step) (o.model.kind c) Down → In completions.Cut (taken_at x.step)
        stopped (ByCut some same) = cut_in (taken_at x.step) some
        stopped (ByFailure id failed writes same) = absurd (let never : ◌≡◌ {A = Ending R} Down (ReadOnly id) = same in cc never)

        by : EndReason o.model o.setup (steps o first x.step.before) c x.own.begun Down → In completions.Cut (taken_at x.step)
        by (Stopped stop) = stopped (stop_kept Down x.step stop)
        by (Refused why going idle reply same) = absurd (let never : ◌≡◌ {A = Ending R} Down (Answered why) = same in cc never)
        by (Acted going idle reply kind same) = absurd (let never = same in cc never)
        by (Full going limit hinders same) = absurd (let never : ◌≡◌ {A = Ending R} Down SessionFull = same in cc never)
        by (Acknowledged b going is same) = absurd (let never : ◌≡◌ {A = Ending R} Down (Answered o.model.ok) = same in cc never)

    pub cut_was_taken : EndsAt (steps o first events).history i t c Down → In completions.Cut (steps o first events).journal.flush.taken
    cut_was_taken there =
        let x = cut_by_then there in
        let g = (grown_from events i t x.0).taken in
        subst (In completions.Cut) (sym g.are) (In-append_left (taken_at x.0) g.more completions.Cut x.1)

    pub down_then : EndsAt (steps o first events).history i t c Down → (n m : ℕ) × HadCome (steps o first) events i n m × In completions.Cut (take n (steps o first events).journal.flush.taken)
    down_then there =
        let x = cut_by_then there in
        (length (taken_at x.0), length (steps o first x.0.before).journal.flush.requests, come x.0, subst (In completions.Cut) (sym (first_taken x.0)) x.1)

    failed_by_then : (id : ℕ) → EndsAt (steps o first events).history i t c (ReadOnly id) → (s : StepAt o first events i t) × (first_failed (taken_at s) ≡ Some id) × (is_reading (o.model.kind c) ≡ false)
    failed_by_then id there = (let r = by x.reason in (x.step, r.0, r.1))
      where
        x : Ended o first events i t c (ReadOnly id)
        x = ended_at o first empty events i t c (ReadOnly id) there

        same_id : (other : ℕ) → ◌≡◌ {A = Ending R} (ReadOnly id) (ReadOnly other) → other ≡ id
        same_id other e = ap (λ (x : Ending R). elim x as (λ _. ℕ) [ Answered r ↦ id | Down ↦ id | ReadOnly n ↦ n | SessionFull ↦ id ]) (sym e)

        stopped : StopCause {R = R} (taken_at x.step) (o.model.kind c) (ReadOnly id) → (first_failed (taken_at x.step) ≡ Some id) × (is_reading (o.model.kind c) ≡ false)
        stopped (ByCut some same) = absurd (let never : ◌≡◌ {A = Ending R} (ReadOnly id) Down = same in cc never)
        stopped (ByFailure other failed writes same) = (failed ∙ ap Some (same_id other same), writes)

        by : EndReason o.model o.setup (steps o first x.step.before) c x.own.begun (ReadOnly id) → (first_failed (taken_at x.step) ≡ Some id) × (is_reading (o.model.kind c) ≡ false)
        by (Stopped stop) = stopped (stop_kept (ReadOnly id) x.step stop)
        by (Refused why going idle reply same) = absurd (let never : ◌≡◌ {A = Ending R} (ReadOnly id) (Answered why) = same in cc never)
        by (Acted going idle reply kind same) = absurd (let never = same in cc never)
        by (Full going limit hinders same) = absurd (let never : ◌≡◌ {A = Ending R} (ReadOnly id) SessionFull = same in cc never)
        by (Acknowledged b going is same) = absurd (let never : ◌≡◌ {A = Ending R} (ReadOnly id) (Answered o.model.ok) = same in cc never)

    pub request_failed : (id : ℕ) → EndsAt (steps o first events).history i t c (ReadOnly id) → (first_failed (steps o first events).journal.flush.taken ≡ Some id) × (is_reading (o.model.kind c) ≡ false)
    request_failed id there =
        let x = failed_by_then id there in
        let g = (grown_from events i t x.0).taken in
        (ap first_failed g.are ∙ failed_stays (taken_at x.0) g.more id x.1, x.2)

    pub failed_then : (id : ℕ) → EndsAt (steps o first events).history i t c (ReadOnly id)
        → (n m : ℕ) × HadCome (steps o first) events i n m × (first_failed (take n (steps o first events).journal.flush.taken) ≡ Some id)
    failed_then id there =
        let x = failed_by_then id there in
        (length (taken_at x.0), length (steps o first x.0.before).journal.flush.requests, come x.0, ap first_failed (first_taken x.0) ∙ x.1)

    -- calls that only read are never hindered, nor do they begin
    module _ (still : (v : V) (d : C) → is_reading (o.model.kind d) ≡ true → o.model.hinders v d ≡ false) where
      abbrev AllSubmitted : Type 0
      AllSubmitted = (n : ℕ) × HadCome (steps o first) events i n first.journal.flush.limit × (length (steps o first events).journal.flush.requests ≡ first.journal.flush.limit)

      all_submitted : EndsAt (steps o first events).history i t c SessionFull → AllSubmitted × (is_reading (o.model.kind c) ≡ false)
      all_submitted there = by x.reason
        where
          x : Ended o first events i t c SessionFull
          x = ended_at o first empty events i t c SessionFull there

          s : Host V C R
          s = steps o first x.step.before

          all : at_limit s.journal.flush ≡ true → AllSubmitted
          all limit =
              let low = leb-true s.journal.flush.limit (length s.journal.flush.requests) limit in
              let g = grown_from events i t x.step in
              let more = g.requests in
              let all_grown = run_grows o first begun events in
              let high = all_grown.room (let l = ap length none in omega (arith, l)) in
              let same = all_grown.limit in
              let old_same = (run_grows o first begun x.step.before).limit in
              let full_then : length s.journal.flush.requests ≡ first.journal.flush.limit = omega (arith, low, more, high, same, old_same) in
              (length (taken_at x.step), subst (HadCome (steps o first) events i (length (taken_at x.step))) full_then (come x.step), omega (arith, low, more, high, same, old_same))

          idle_writes : (b : Option Begun) → x.own.begun ≡ b → (x.own.begun ≡ None → o.model.hinders s.volume c ≡ true) → is_reading (o.model.kind c) ≡ false
          idle_writes None is hinders = false_from_ne_true (is_reading (o.model.kind c)) (λ reads. true≢false (sym (hinders is) ∙ still s.volume c reads))
          idle_writes (Some b) is hinders =
              begun_writes (o.model.kind c) (stay_begun o first begun x.step.before x.own c x.rest b (slice_get-In s.threads t x.own x.at) x.calls is)

          stopped_otherwise : StopCause {R = R} (taken_at x.step) (o.model.kind c) SessionFull → ⊥
          stopped_otherwise (ByCut some same) = (let never : ◌≡◌ {A = Ending R} SessionFull Down = same in cc never)
          stopped_otherwise (ByFailure id failed writes same) = (let never : ◌≡◌ {A = Ending R} SessionFull (ReadOnly id) = same in cc never)

          by : EndReason o.model o.setup s c x.own.begun SessionFull → AllSubmitted × (is_reading (o.model.kind c) ≡ false)
          by (Full going limit hinders same) = (all limit, idle_writes x.own.begun refl hinders)
          by (Stopped stop) = absurd (stopped_otherwise (stop_kept SessionFull x.step stop))
          by (Refused why going idle reply same) = absurd (let never : ◌≡◌ {A = Ending R} SessionFull (Answered why) = same in cc never)
          by (Acted going idle reply kind same) = absurd (let never = same in cc never)
          by (Acknowledged b going is same) = absurd (let never : ◌≡◌ {A = Ending R} SessionFull (Answered o.model.ok) = same in cc never)

  -- ---- what stopped a call stops those behind it

  -- an entry that stands before a step's stood there then
  stood : (es : List Event) (i j t u : ℕ) (c : C) (e : Ending R) (s : StepAt o first es j u) → i < j → EndsAt (steps o first es).history i t c e → EndsAt (steps o first s.before).history i t c e
  stood es i j t u c e s lt there =
      let g = (grown_from es j u s).history in
      sym (extended_place (steps o first s.before).history (steps o first es).history g i (let p = s.place in omega (arith, p, lt))) ∙ there

  stops : (s : Host V C R) (c : C) (b : Option Begun) (e stop : Ending R) → stop_of o.model o.setup s.journal.flush.taken (o.model.kind c) ≡ Some stop → EndReason o.model o.setup s c b e → e ≡ stop
  stops s c b e stop is (Stopped other) = same_Some e stop (sym other ∙ is)
  stops s c b e stop is (Refused why going idle reply same) = absurd (none-some stop (sym going ∙ is))
  stops s c b e stop is (Acted going idle reply kind same) = absurd (none-some stop (sym going ∙ is))
  stops s c b e stop is (Full going limit hinders same) = absurd (none-some stop (sym going ∙ is))
  stops s c b e stop is (Acknowledged x going was same) = absurd (none-some stop (sym going ∙ is))

  failure_stops : (s : Host V C R) (c : C) (b : Option Begun) (e : Ending R) (id : ℕ) → first_failed s.journal.flush.taken ≡ Some id → is_reading (o.model.kind c) ≡ false → EndReason o.model o.setup s c b e → (e ≡ ReadOnly id) ⊎ (e ≡ Down)
  failure_stops s c b e id failed writes reason = by (list_any is_cut s.journal.flush.taken) refl
    where
      by : (y : Bool) → list_any is_cut s.journal.flush.taken ≡ y → (e ≡ ReadOnly id) ⊎ (e ≡ Down)
      by true any = inr (stops s c b e Down (rw any refl) reason)
      by false not_cut = inl (stops s c b e (ReadOnly id) (rw not_cut (rw writes (ap (option_map ReadOnly) failed))) reason)

  pub down_stays : (es : List Event) (i j t u : ℕ) (c d : C) (e : Ending R) → i < j → EndsAt (steps o first es).history i t c Down → EndsAt (steps o first es).history j u d e → e ≡ Down
  down_stays es i j t u c d e lt one other =
      let x = ended_at o first empty es j u d e other in
      let s = steps o first x.step.before in
      let cut = cut_was_taken x.step.before i t c (stood es i j t u c Down x.step lt one) in
      let any : list_any is_cut s.journal.flush.taken ≡ true = list_any-In is_cut s.journal.flush.taken completions.Cut cut refl in
      stops s d x.own.begun e Down (rw any refl) x.reason

  pub failure_stays : (es : List Event) (i j t u id : ℕ) (c d : C) (e : Ending R) → i < j → EndsAt (steps o first es).history i t c (ReadOnly id) → EndsAt (steps o first es).history j u d e → is_reading (o.model.kind d) ≡ false → (e ≡ ReadOnly id) ⊎ (e ≡ Down)
  failure_stays es i j t u id c d e lt one other writes =
      let x = ended_at o first empty es j u d e other in
      let s = steps o first x.step.before in
      failure_stops s d x.own.begun e id (request_failed x.step.before i t c id (stood es i j t u c (ReadOnly id) x.step lt one)).0 writes x.reason

  -- the causes of a run
  pub have_causes : ((v : V) (d : C) → is_reading (o.model.kind d) ≡ true → o.model.hinders v d ≡ false) → (events : List Event) → HaveCauses o.model.kind first.journal.flush.limit (HadCome (steps o first) events) (steps o first events)
  have_causes still events = record {
    down = λ e t c there. down_then events e t c there;
    read_only = λ e t id c there. failed_then events e t c id there;
    read_only_writes = λ e t id c there. (request_failed events e t c id there).1;
    session_full = λ e t c there. (all_submitted events e t c still there).0;
    session_full_writes = λ e t c there. (all_submitted events e t c still there).1;
    down_stays = down_stays events;
    read_only_stays = failure_stays events;
  }
