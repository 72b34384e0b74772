-- Each step does one move, and leaves it so that only barrier and sync calls have begun.
use Rattle.std.proofs.Common.{sym, ap, subst, ◌∙◌, ⊎_elim}
use Rattle.std.proofs.lemmas.Bool.{cases_lt, false≢true, le-leb}
use Rattle.std.proofs.lemmas.Option.{none-some}
use Rattle.std.specs.Prelude.{◌≡◌, ℕ, ◌<◌, ◌+◌, Bool, true, false, List, [], ◌∷◌, length, set, Some, None, refl}
use Rattle.blk_base.specs.laws.Members.{In-set_cases, slice_get-In}
use Rattle.log_model.specs.Marks.{Logged}
use Rattle.host_machine.specs.Host.{Stepped, end_with, advance, checkpoint, plan_sent, commit_step}
use Rattle.host_machine.specs.Model.{Model}
use Rattle.journal_ring.specs.running.Plan.{Planned}
use Rattle.host_machine.specs.State.{Ending, Answered, SessionFull, Begun, Thread, Host, Setup, Begins, Ends}
use Rattle.commit_actor.specs.Journal.{Plan}
use Rattle.flush_actor.specs.Kinds.{is_begun}
use Rattle.flush_actor.specs.Part.{at_limit}
use Rattle.host_machine.specs.laws.Contract.{Over}
use Rattle.host_machine.specs.runs.Runs.{Event, Call, Commit, WriteBack, FlushStep, TakeStep, AreBegun, stepped}
use Rattle.host_machine.proofs.RunsLemmas.Walks.{BegunEnds, FreshEnds, caller_walk, commit_walk, writeback_walk, flush_walk, take_walk}
use Rattle.host_machine.specs.runs.laws.Traces.{trace_of, Move, Stays, Puts, Enters, Cuts, Takes}

same_head : {X : Type 0} (x y : X) (xs ys : List X) → x ∷ xs ≡ y ∷ ys → x ≡ y
same_head {X = X} x y xs ys e = ap (λ l. elim l as (λ _. X) [ [] ↦ x | z ∷ zs ↦ z ]) e

module _ {T V C R : Type 0} (M : Model T V C R) (u : Setup) (full : Bool) (s : Host V C R) (old : AreBegun M.kind s.threads) where
  abbrev Kept : Host V C R → Type 0
  Kept x = AreBegun M.kind x.threads × Move (trace_of s) (trace_of x)

  abbrev After : Stepped V C R → Type 0
  After x = Kept x.host

  room : at_limit s.journal.flush ≡ false → length s.journal.flush.requests < s.journal.flush.limit
  room d =
      ⊎_elim (λ lt. lt) (λ le. absurd (false≢true (sym d ∙ le-leb s.journal.flush.limit (length s.journal.flush.requests) le)))
      (cases_lt (length s.journal.flush.requests) s.journal.flush.limit)

  stays : Kept s
  stays = (old, Stays refl)

  put_thread : (t : ℕ) (th : Thread C) → ((c : C) (rest : List C) (b : Begun) → th.calls ≡ c ∷ rest → th.begun ≡ Some b → is_begun (M.kind c) ≡ true) → AreBegun M.kind (set s.threads t th)
  put_thread t th new x c rest b i calls begun =
      ⊎_elim
      (λ j. old x c rest b j calls begun)
      (λ e. new c rest b (ap (λ (y : Thread C). y.calls) e ∙ calls) (ap (λ (y : Thread C). y.begun) e ∙ begun))
      (In-set_cases s.threads t th x i)

  -- ---- a caller

  module _ (t : ℕ) (c : C) (rest : List C) where
    ends : (e : Ending R) → After (end_with M u s t c rest e)
    ends e = (put_thread t (record { calls = rest; begun = None }) (λ d more b k n. absurd (none-some b n)), Enters (record { thread = t; call = c; what = Ends e }) refl)

    -- a thread whose first call has begun
    begun_thread : is_begun (M.kind c) ≡ true → (b : Begun) → AreBegun M.kind (set s.threads t (record { calls = c ∷ rest; begun = Some b }))
    begun_thread kind b = put_thread t (record { calls = c ∷ rest; begun = Some b }) (λ x more y calls k. subst (λ z. is_begun (M.kind z) ≡ true) (same_head c x rest more calls) kind)

    begun_ends : is_begun (M.kind c) ≡ true → (b : Begun) → BegunEnds M u full s t c rest b After
    begun_ends kind b = record {
      done = ends (Answered M.ok);
      full_up = λ e. ends SessionFull;
      rests = λ why. stays;
      waits = λ w why. stays;
      wants = λ w why. stays;
      sends = λ next is few free. (begun_thread kind _, Puts _ _ (room few) refl);
    }

    fresh_ends : FreshEnds M u s t c rest After
    fresh_ends = record {
      refused = λ why e. ends (Answered why);
      begins = λ accepted kind. (begun_thread kind _, Enters (record { thread = t; call = c; what = Begins }) refl);
      full_up = λ why e limit. ends SessionFull;
      rests = λ why. stays;
      wants = λ why. stays;
      acts = λ accepted kind free. (
        put_thread t (record { calls = rest; begun = None }) (λ d more b k n. absurd (none-some b n)),
        Enters (record { thread = t; call = c; what = Ends (Answered (M.apply s.volume (length s.history + 1) s.journal.running.number c).reply) }) refl,
      );
    }

  call_move : (t : ℕ) → Kept (advance M u full s t).host
  call_move t = caller_walk M u full s t After stays (λ th c rest at is. record {
    stopped = λ e stop. ends t c rest e;
    goes_on = λ b going begun. begun_ends t c rest (old th c rest b (slice_get-In s.threads t th at) is begun) b;
    starts = λ going begun. fresh_ends t c rest;
  })

  -- ---- the actors

  checkpoint_move : at_limit s.journal.flush ≡ false → (homes : List Logged) → Kept (checkpoint M u s homes)
  checkpoint_move d [] = (old, Puts _ _ (room d) refl)
  checkpoint_move d (h ∷ hs) = (old, Puts _ _ (room d) refl)

  plan_sent_move : at_limit s.journal.flush ≡ false → (p : Plan) (first : Planned) (rest : List Planned) → Kept (plan_sent M u s p first rest)
  plan_sent_move d p first [] = (old, Puts _ _ (room d) refl)
  plan_sent_move d p first (q ∷ qs) = (old, Puts _ _ (room d) refl)

  commit_move : Kept (commit_step M u full s).host
  commit_move = commit_walk M u full s Kept (record {
    rests = stays;
    closes = stays;
    sends_page = λ p few free. (old, Puts _ _ (room few) refl);
    checkpoints = λ few free. checkpoint_move few s.journal.ring.homes;
    builds = (old, Cuts refl);
    sends_plan = λ p first rest at is few free. plan_sent_move few p first rest;
  })

module _ {A T V C R : Type 0} (o : Over A T V C R) (s : Host V C R) (old : AreBegun o.model.kind s.threads) where
  abbrev IsMoved : Host V C R → Type 0
  IsMoved x = AreBegun o.model.kind x.threads × Move (trace_of s) (trace_of x)

  pub moved : (e : Event) → AreBegun o.model.kind (stepped o s e).threads × Move (trace_of s) (trace_of (stepped o s e))
  moved (Call full t) = call_move o.model o.setup full s old t
  moved (Commit full) = commit_move o.model o.setup full s old
  moved (WriteBack full pick) = writeback_walk o.model o.setup full s IsMoved (old, Stays refl) (λ p ordered few free. (old, Puts _ _ (room o.model o.setup full s old few) refl)) pick
  moved (FlushStep full next) = flush_walk o.model o.setup full s IsMoved (old, Stays refl) (λ few free. (old, Puts _ _ (room o.model o.setup full s old few) refl)) (λ c. (old, Takes c refl)) next
  moved (TakeStep next) = take_walk o.model o.setup true s IsMoved (old, Stays refl) (λ c. (old, Takes c refl)) next
