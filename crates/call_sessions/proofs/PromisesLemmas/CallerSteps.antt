-- What a caller's step makes of the history and of its thread, and why a call ends.
use Rattle.std.specs.Prelude.{◌≡◌, ℕ, ◌+◌, ◌&&◌, ◌||◌, Bool, true, false, List, [], ◌∷◌, ◌++◌, length, set, slice_get, is_none, Option, Some, None, refl}
use Rattle.std.proofs.Common.{sym, ◌∙◌}
use Rattle.host_machine.specs.Causes.{Cause}
use Rattle.host_machine.specs.Host.{Stepped, unsent_on, ended_by, hindrance, stop_of, step_thread, advance}
use Rattle.host_machine.specs.Model.{Model}
use Rattle.host_machine.specs.Outcomes as outcomes
use Rattle.host_machine.specs.State.{Ending, Answered, SessionFull, Begun, Thread, Host, Setup, Begins, Ends}
use Rattle.host_machine.proofs.RunsLemmas.Walks.{BegunEnds, FreshEnds, call_walk}
use Rattle.flush_actor.specs.Kinds.{is_begun, is_data}
use Rattle.flush_actor.specs.Part.{at_limit}

module _ {T V C R : Type 0} (M : Model T V C R) (u : Setup) (s : Host V C R) where
  -- why the first call of a thread ends so; nothing stopped it, where it did not end by that
  pub data EndReason (c : C) (begun : Option Begun) (e : Ending R) : Type 0 where
    Stopped : stop_of M u s.journal.flush.taken (M.kind c) ≡ Some e → EndReason c begun e
    Refused : (why : R) → stop_of M u s.journal.flush.taken (M.kind c) ≡ None → begun ≡ None → M.reply s.volume c ≡ Some why → e ≡ Answered why → EndReason c begun e
    Acted : stop_of M u s.journal.flush.taken (M.kind c) ≡ None → begun ≡ None → M.reply s.volume c ≡ None → is_begun (M.kind c) ≡ false
        → e ≡ Answered (M.apply s.volume (length s.history + 1) s.journal.running.number c).reply → EndReason c begun e
    Full : stop_of M u s.journal.flush.taken (M.kind c) ≡ None → at_limit s.journal.flush ≡ true → (begun ≡ None → M.hinders s.volume c ≡ true) → e ≡ SessionFull → EndReason c begun e
    Acknowledged : (b : Begun) → stop_of M u s.journal.flush.taken (M.kind c) ≡ None → begun ≡ Some b → e ≡ Answered M.ok → EndReason c begun e

  -- what the step of thread t, whose first call is c, leaves
  pub data CallStep (t : ℕ) (c : C) (rest : List C) (begun : Option Begun) (x : Stepped V C R) : Type 0 where
    Rests : x.host.history ≡ s.history → x.host.threads ≡ s.threads → CallStep t c rest begun x
    Sends : (b new : Begun) → begun ≡ Some b → (new.begin ≡ b.begin) × (new.kind ≡ b.kind) × (new.file ≡ b.file) → x.host.history ≡ s.history
        → x.host.threads ≡ set s.threads t (record { calls = c ∷ rest; begun = Some new }) → CallStep t c rest begun x
    Starts : (b : Begun) → begun ≡ None → M.reply s.volume c ≡ None → is_begun (M.kind c) ≡ true → (b.begin ≡ length s.history + 1) × (b.kind ≡ M.kind c) × (b.file ≡ M.node s.volume c)
        → x.host.history ≡ s.history ++ record { thread = t; call = c; what = Begins } ∷ []
        → x.host.threads ≡ set s.threads t (record { calls = c ∷ rest; begun = Some b }) → CallStep t c rest begun x
    Finishes : (e : Ending R) → EndReason c begun e → x.step ≡ ended_by M u e
        → x.host.history ≡ s.history ++ record { thread = t; call = c; what = Ends e } ∷ []
        → x.host.threads ≡ set s.threads t (record { calls = rest; begun = None }) → CallStep t c rest begun x

  -- only a call that would change something is hindered
  hindrance_hinders : (c : C) (cause : Cause) → hindrance M u s c ≡ Some cause → M.hinders s.volume c ≡ true
  hindrance_hinders c cause e = by (M.hinders s.volume c) refl
    where
      by : (x : Bool) → M.hinders s.volume c ≡ x → M.hinders s.volume c ≡ true
      by true is = is
      by false is = absurd (let never : ◌≡◌ {A = Option Cause} None (Some cause) = rw is at e in cc never)

  module _ (full : Bool) (t : ℕ) (c : C) (rest : List C) (begun : Option Begun) where
    begun_ends : stop_of M u s.journal.flush.taken (M.kind c) ≡ None → (b : Begun) → begun ≡ Some b → BegunEnds M u full s t c rest b (CallStep t c rest begun)
    begun_ends going b is = record {
      done = Finishes (Answered M.ok) (Acknowledged b going is refl) refl refl refl;
      full_up = λ limit. Finishes SessionFull (Full going limit (λ none. absurd (let never : ◌≡◌ {A = Option Begun} (Some b) None = sym is ∙ none in cc never)) refl) refl refl refl;
      rests = λ why. Rests refl refl;
      waits = λ w why. Rests refl refl;
      wants = λ w why. Rests refl refl;
      sends = λ next listed few free. Sends b (record b { list = next.1; sent_barrier = b.sent_barrier || (is_data b.kind && is_none (unsent_on s.pages next.1)) }) is (refl, refl, refl) refl refl;
    }

    fresh_ends : stop_of M u s.journal.flush.taken (M.kind c) ≡ None → begun ≡ None → FreshEnds M u s t c rest (CallStep t c rest begun)
    fresh_ends going is = record {
      refused = λ why e. Finishes (Answered why) (Refused why going is e refl) refl refl refl;
      begins = λ accepted kind. Starts _ is accepted kind (refl, refl, refl) refl refl;
      full_up = λ cause e limit. Finishes SessionFull (Full going limit (λ n. hindrance_hinders c cause e) refl) refl refl refl;
      rests = λ why. Rests refl refl;
      wants = λ why. Rests refl refl;
      acts = λ accepted kind free. Finishes (Answered (M.apply s.volume (length s.history + 1) s.journal.running.number c).reply) (Acted going is accepted kind refl) refl refl refl;
    }

    thread_step : CallStep t c rest begun (step_thread M u full s t begun (c ∷ rest))
    thread_step = call_walk M u full s t c rest (CallStep t c rest begun) begun (record {
      stopped = λ e stop. Finishes e (Stopped stop) refl refl refl;
      goes_on = λ b going is. begun_ends going b is;
      starts = fresh_ends;
    })

  -- the step of thread t: it has no call left and nothing happens, or it is the step of its first call
  pub data ThreadStep (full : Bool) (t : ℕ) (x : Stepped V C R) : Type 0 where
    Over : x.host.history ≡ s.history → x.host.threads ≡ s.threads → ThreadStep full t x
    Calls : (th : Thread C) (c : C) (rest : List C) → slice_get s.threads t ≡ Some th → th.calls ≡ c ∷ rest → CallStep t c rest th.begun x → ThreadStep full t x

  pub caller_step : (full : Bool) (t : ℕ) → ThreadStep full t (advance M u full s t)
  caller_step full t = by (slice_get s.threads t) refl
    where
      calls_by : (th : Thread C) → slice_get s.threads t ≡ Some th → (calls : List C) → th.calls ≡ calls → ThreadStep full t (step_thread M u full s t th.begun calls)
      calls_by th at [] e = Over refl refl
      calls_by th at (c ∷ rest) e = Calls th c rest at e (thread_step full t c rest th.begun)

      by : (x : Option (Thread C)) → slice_get s.threads t ≡ x → ThreadStep full t (elim x as (λ _. Stepped V C R) [ None ↦ record { host = s; step = outcomes.Ended } | Some th ↦ step_thread M u full s t th.begun th.calls ])
      by None e = Over refl refl
      by (Some th) e = calls_by th e th.calls refl
