-- Once the power went or a request failed, no step of the host submits anything.
use Rattle.std.proofs.Common.{◌≡◌, ℕ, ◌||◌, Bool, true, false, not, List, [], ◌∷◌, ◌++◌, Option, Some, None, option_map, slice_get, refl, sym, ap, subst, ◌∙◌, if◌then◌else◌}
use Rattle.std.specs.List.{list_any}
use Rattle.std.proofs.lemmas.Bool.{and_parts, true≢false}
use Rattle.std.proofs.lemmas.Option.{none-some}
use Rattle.blk_base.specs.laws.Members.{slice_get-In}
use Rattle.order_model.specs.declared.completion.Completion.{Completion}
use Rattle.order_model.specs.declared.completion.Completion.TheVariants as completions
use Rattle.order_model.specs.declared.turn.Turn.TheVariants as turns
use Rattle.flush_actor.specs.Kinds.{is_reading}
use Rattle.flush_actor.specs.Part.{is_cut, first_failed, has_stopped, is_over}
use Rattle.flush_actor.specs.Steps.{flush_due}
use Rattle.flush_actor.specs.declared.call_kind.CallKind.{CallKind}
use Rattle.host_machine.specs.Host.{Stepped, Turned, stop_of, advance, commit_step, writeback, flush_step, take_step}
use Rattle.host_machine.specs.Model.{Model}
use Rattle.host_machine.specs.State.{Ending, Down, ReadOnly, Begun, Thread, Host, Setup}
use Rattle.host_machine.specs.laws.Contract.{Over}
use Rattle.host_machine.specs.laws.Choices.{either}
use Rattle.host_machine.specs.runs.Runs as runs
use Rattle.host_machine.specs.runs.Runs.{Event, AreBegun, stepped, steps}
use Rattle.host_machine.proofs.RunsLemmas.Walks.{caller_walk}
use Rattle.host_machine.proofs.RunsLemmas.Threads.{moved}
use Rattle.call_sessions.proofs.PromisesLemmas.EndCauses.{begun_writes}
use Rattle.call_sessions.proofs.PromisesLemmas.Growing.{run_grows, stay_begun}
use Rattle.call_sessions.proofs.PromisesLemmas.Origins.{steps_append}

-- ---- completions

or_true : (b : Bool) → (b || true) ≡ true
or_true true = refl
or_true false = refl

-- what stopped a host stops it whatever comes behind
stays_stopped : (taken more : List Completion) → has_stopped taken ≡ true → has_stopped (taken ++ more) ≡ true
stays_stopped [] more e = absurd (true≢false (sym e))
stays_stopped (completions.Cut ∷ cs) more e = refl
stays_stopped (completions.Failed i ∷ cs) more e = or_true (list_any is_cut (cs ++ more))
stays_stopped (completions.Moved i ∷ cs) more e = stays_stopped cs more e
stays_stopped (completions.Flushed i ∷ cs) more e = stays_stopped cs more e

module _ {T V C R : Type 0} (M : Model T V C R) (u : Setup) where
  -- a call that goes on then does nothing but read
  reads_only : (taken : List Completion) (kind : CallKind) → has_stopped taken ≡ true → (stop : Option (Ending R)) → stop_of M u taken kind ≡ stop → stop ≡ None → is_reading kind ≡ true
  reads_only taken kind over stop is none = by (list_any is_cut taken) (is_reading kind) (first_failed taken) over (is ∙ none)
    where
      by : (b r : Bool) (f : Option ℕ) → (b || elim f as (λ _. Bool) [ None ↦ false | Some id ↦ true ]) ≡ true
          → ◌≡◌ {A = Option (Ending R)} (if b then Some Down else if r then None else option_map ReadOnly f) None → r ≡ true
      by true r f over e = absurd (none-some Down (sym e))
      by false true f over e = refl
      by false false None over e = absurd (true≢false (sym over))
      by false false (Some id) over e = absurd (none-some (ReadOnly id) (sym e))

module _ {A T V C R : Type 0} (o : Over A T V C R) where
  -- ---- one step

  module _ (s : Host V C R) (begun : AreBegun o.model.kind s.threads) (over : has_stopped s.journal.flush.taken ≡ true) where
    abbrev SameRequests : Host V C R → Type 0
    SameRequests h = h.journal.flush.requests ≡ s.journal.flush.requests

    -- a call that has begun does not only read
    none_goes_on : (t : ℕ) (th : Thread C) (c : C) (rest : List C) (b : Begun) → slice_get s.threads t ≡ Some th → th.calls ≡ c ∷ rest → th.begun ≡ Some b
        → stop_of o.model o.setup s.journal.flush.taken (o.model.kind c) ≡ None → ⊥
    none_goes_on t th c rest b there calls is going =
        true≢false (sym (reads_only o.model o.setup s.journal.flush.taken (o.model.kind c) over _ going refl)
        ∙ begun_writes (o.model.kind c) (begun th c rest b (slice_get-In s.threads t th there) calls is))

    by_caller : (full : Bool) (t : ℕ) → SameRequests (advance o.model o.setup full s t).host
    by_caller full t =
        caller_walk o.model o.setup full s t (λ (x : Stepped V C R). SameRequests x.host) refl (λ th c rest there calls. record {
          stopped = λ e stop. refl;
          goes_on = λ b going is. absurd (none_goes_on t th c rest b there calls is going);
          starts = λ going idle. record {
            refused = λ why e. refl;
            begins = λ none kind. refl;
            full_up = λ why e limit. refl;
            rests = λ why. refl;
            wants = λ why. refl;
            acts = λ none kind free. refl;
          };
        })

    by_commit : (full : Bool) → SameRequests (commit_step o.model o.setup full s).host
    by_commit full = either (λ (x : Turned V C R). SameRequests x.host) (is_over s.journal.flush) _ _ (λ e. refl) (λ e. absurd (true≢false (sym over ∙ e)))

    by_writeback : (full : Bool) (pick : ℕ) → SameRequests (writeback o.model o.setup full s pick).host
    by_writeback full pick = either (λ (x : Turned V C R). SameRequests x.host) (is_over s.journal.flush) _ _ (λ e. refl) (λ e. absurd (true≢false (sym over ∙ e)))

    taken : (next : Option Completion) → SameRequests (take_step o.model o.setup s next).host
    taken None = refl
    taken (Some c) = refl

    by_flush : (full : Bool) (next : Option Completion) → SameRequests (flush_step o.model o.setup full s next).host
    by_flush full next = either (λ (x : Turned V C R). SameRequests x.host) (flush_due s.journal.flush) _ _ (λ due. absurd (never due)) (λ e. taken next)
      where
        never : flush_due s.journal.flush ≡ true → ⊥
        never due = true≢false (sym (and_parts (not (is_over s.journal.flush)) _ due).0 ∙ ap not over)

    by_step : (e : Event) → SameRequests (stepped o s e)
    by_step (runs.Call full t) = by_caller full t
    by_step (runs.Commit full) = by_commit full
    by_step (runs.WriteBack full pick) = by_writeback full pick
    by_step (runs.FlushStep full next) = by_flush full next
    by_step (runs.TakeStep next) = taken next

  -- ---- many steps

  nothing_more : (s : Host V C R) → AreBegun o.model.kind s.threads → has_stopped s.journal.flush.taken ≡ true → (es : List Event) → (steps o s es).journal.flush.requests ≡ s.journal.flush.requests
  nothing_more s begun over [] = refl
  nothing_more s begun over (e ∷ es) =
      let grown = (run_grows o s begun (e ∷ [])).taken in
      let still : has_stopped (stepped o s e).journal.flush.taken ≡ true = subst (λ cs. has_stopped cs ≡ true) (sym grown.are) (stays_stopped s.journal.flush.taken grown.more over) in
      nothing_more (stepped o s e) (moved o s begun e).0 still es ∙ by_step s begun over e

  pub ceases : (first : Host V C R) → AreBegun o.model.kind first.threads → (es more : List Event) → has_stopped (steps o first es).journal.flush.taken ≡ true
      → (steps o first (es ++ more)).journal.flush.requests ≡ (steps o first es).journal.flush.requests
  ceases first begun es more over =
      ap (λ (h : Host V C R). h.journal.flush.requests) (steps_append o first es more) ∙ nothing_more (steps o first es) (stay_begun o first begun es) over more
