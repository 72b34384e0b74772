-- Along whole runs a call that has begun is the first of its thread's calls.
use Rattle.std.specs.Prelude.{◌≡◌, ℕ, Bool, false, List, [], ◌∷◌, map, set, Some, None, slice_get, refl}
use Rattle.std.proofs.Common.{ap, subst, ◌∙◌, ⊎_elim}
use Rattle.std.proofs.lemmas.Option.{none-some}
use Rattle.blk_base.specs.Members.{In}
use Rattle.blk_base.specs.laws.Members.{In-map, In-set_cases, slice_get-In}
use Rattle.log_model.specs.Marks.{Logged}
use Rattle.journal_ring.specs.running.Plan.{Planned}
use Rattle.commit_actor.specs.Journal.{Plan}
use Rattle.host_machine.specs.Host.{Stepped, advance, checkpoint, commit_step, plan_sent}
use Rattle.host_machine.specs.Model.{Model}
use Rattle.host_machine.specs.State.{Begun, Thread, Host, Setup}
use Rattle.host_machine.specs.laws.Contract.{Over}
use Rattle.host_machine.specs.runs.Runs.{Event, Call, Commit, WriteBack, FlushStep, TakeStep, stepped, steps}
use Rattle.host_machine.proofs.RunsLemmas.Walks.{caller_walk, commit_walk, writeback_walk, flush_walk, take_walk}

abbrev pub AreFirst : {C : Type 0} → List (Thread C) → Type 0
AreFirst {C = C} threads = (th : Thread C) (b : Begun) → In th threads → th.begun ≡ Some b → (c : C) × (rest : List C) × (th.calls ≡ c ∷ rest)

pub first_at : {C : Type 0} (threads : List (Thread C)) → AreFirst threads → (t : ℕ) (th : Thread C) (b : Begun) → slice_get threads t ≡ Some th → th.begun ≡ Some b → (c : C) × (rest : List C) × (th.calls ≡ c ∷ rest)
first_at threads kept t th b at is = kept th b (slice_get-In threads t th at) is

pub none_begun : {C : Type 0} (programs : List (List C)) → AreFirst (map (λ (p : List C). record { calls = p; begun = None }) programs)
none_begun {C = C} programs th b i is =
    let p = In-map (λ (p : List C). record { calls = p; begun = None }) programs th i in
    absurd (none-some b (ap (λ (th : Thread C). th.begun) p.2 ∙ is))

set_first : {C : Type 0} (threads : List (Thread C)) (t : ℕ) (now : Thread C) → AreFirst threads → ((b : Begun) → now.begun ≡ Some b → (c : C) × (rest : List C) × (now.calls ≡ c ∷ rest)) → AreFirst (set threads t now)
set_first {C = C} threads t now kept one th b i is = ⊎_elim (λ before. kept th b before is) (λ same. set_one th same is) (In-set_cases threads t now th i)
  where
    set_one : (th : Thread C) → now ≡ th → th.begun ≡ Some b → (c : C) × (rest : List C) × (th.calls ≡ c ∷ rest)
    set_one th same is = subst (λ (th : Thread C). (c : C) × (rest : List C) × (th.calls ≡ c ∷ rest)) same (one b (ap (λ (th : Thread C). th.begun) same ∙ is))

module _ {T V C R : Type 0} (M : Model T V C R) (u : Setup) (full : Bool) (h : Host V C R) (kept : AreFirst h.threads) where
  abbrev After : Stepped V C R → Type 0
  After x = AreFirst x.host.threads

  abbrev Now : Host V C R → Type 0
  Now x = AreFirst x.threads

  ends : (t : ℕ) (rest : List C) → AreFirst (set h.threads t (record { calls = rest; begun = None }))
  ends t rest = set_first h.threads t (record { calls = rest; begun = None }) kept (λ b is. absurd (none-some b is))

  goes_on : (t : ℕ) (c : C) (rest : List C) (b : Begun) → AreFirst (set h.threads t (record { calls = c ∷ rest; begun = Some b }))
  goes_on t c rest b = set_first h.threads t (record { calls = c ∷ rest; begun = Some b }) kept (λ b is. (c, rest, refl))

  caller_first : (t : ℕ) → After (advance M u full h t)
  caller_first t = caller_walk M u full h t After kept (λ th c rest at is. record {
    stopped = λ e stop. ends t rest;
    goes_on = λ b going begun. record {
      done = ends t rest;
      full_up = λ e. ends t rest;
      rests = λ why. kept;
      waits = λ w why. kept;
      wants = λ w why. kept;
      sends = λ next is_next free empty. goes_on t c rest _;
    };
    starts = λ going begun. record {
      refused = λ why e. ends t rest;
      begins = λ accepted kind. goes_on t c rest _;
      full_up = λ why e limit. ends t rest;
      rests = λ why. kept;
      wants = λ why. kept;
      acts = λ accepted kind free. ends t rest;
    };
  })

  checked : (homes : List Logged) → Now (checkpoint M u h homes)
  checked [] = kept
  checked (x ∷ xs) = kept

  sent : (p : Plan) (next : Planned) (rest : List Planned) → Now (plan_sent M u h p next rest)
  sent p next [] = kept
  sent p next (q ∷ qs) = kept

  commit_first : Now (commit_step M u full h).host
  commit_first = commit_walk M u full h Now (record {
    rests = kept;
    closes = kept;
    sends_page = λ p limit free. kept;
    checkpoints = λ limit free. checked h.journal.ring.homes;
    builds = kept;
    sends_plan = λ p next rest phase is limit free. sent p next rest;
  })

module _ {A T V C R : Type 0} (o : Over A T V C R) where
  pub step_first : (h : Host V C R) → AreFirst h.threads → (e : Event) → AreFirst (stepped o h e).threads
  step_first h kept (Call full t) = caller_first o.model o.setup full h kept t
  step_first h kept (Commit full) = commit_first o.model o.setup full h kept
  step_first h kept (WriteBack full pick) = writeback_walk o.model o.setup full h (λ (x : Host V C R). AreFirst x.threads) kept (λ p ordered limit free. kept) pick
  step_first h kept (FlushStep full next) = flush_walk o.model o.setup full h (λ (x : Host V C R). AreFirst x.threads) kept (λ limit free. kept) (λ c. kept) next
  step_first h kept (TakeStep next) = take_walk o.model o.setup false h (λ (x : Host V C R). AreFirst x.threads) kept (λ c. kept) next

  pub steps_first : (h : Host V C R) → AreFirst h.threads → (events : List Event) → AreFirst (steps o h events).threads
  steps_first h kept [] = kept
  steps_first h kept (e ∷ events) = steps_first (stepped o h e) (step_first h kept e) events
