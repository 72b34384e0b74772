-- Each step of a host lets its history grow, and each end of a call is one call less that a thread has left.
use Rattle.std.specs.Prelude.{◌≡◌, ℕ, zero, suc, ◌+◌, ◌≤◌, Bool, false, List, [], ◌∷◌, ◌++◌, length, set, Some, None, slice_get, refl}
use Rattle.std.proofs.Common.{sym, ap, subst, ◌∙◌, arith}
use Rattle.std.proofs.lemmas.List.{append-nil, append_assoc, length-set}
use Rattle.std.proofs.lemmas.Option.{none-some, same_Some}
use Rattle.log_model.specs.Marks.{Logged}
use Rattle.commit_actor.specs.Journal.{Plan}
use Rattle.journal_ring.specs.running.Plan.{Planned}
use Rattle.host_machine.specs.Host.{Stepped, end_with, advance, checkpoint, plan_sent, commit_step}
use Rattle.host_machine.specs.Model.{Model}
use Rattle.host_machine.specs.State.{What, Begins, Ends, Ending, Answered, SessionFull, Begun, Entry, Thread, Host, Setup}
use Rattle.host_machine.specs.laws.Contract.{Over}
use Rattle.host_machine.specs.runs.Runs.{Event, Call, Commit, WriteBack, FlushStep, TakeStep, stepped, steps}
use Rattle.host_machine.proofs.RunsLemmas.Walks.{BegunEnds, FreshEnds, caller_walk, commit_walk, writeback_walk, flush_walk, take_walk}

module _ {R : Type 0} where
  abbrev one_if : What R → ℕ
  one_if Begins = 0
  one_if (Ends e) = 1

module _ {C R : Type 0} where
  -- how many calls ended
  pub ends_in : List (Entry C R) → ℕ
  ends_in [] = 0
  ends_in (x ∷ xs) = one_if x.what + ends_in xs

  pub ends_append : (xs ys : List (Entry C R)) → ends_in (xs ++ ys) ≡ ends_in xs + ends_in ys
  unfolding ends_in
  ends_append [] ys = omega arith
  ends_append (x ∷ xs) ys = let rest = ends_append xs ys in omega (arith, rest)

-- how many calls threads have left
pub left_in : {C : Type 0} → List (Thread C) → ℕ
left_in [] = 0
left_in (th ∷ ths) = length th.calls + left_in ths

-- none, where no thread has a call left, and only there
pub no_calls : {C : Type 0} (ths : List (Thread C)) → ((t : ℕ) (th : Thread C) → slice_get ths t ≡ Some th → th.calls ≡ []) → left_in ths ≡ 0
unfolding left_in
no_calls [] all = refl
no_calls (th ∷ ths) all = let first = ap length (all 0 th refl) in let rest = no_calls ths (λ t x at. all (suc t) x at) in omega (arith, first, rest)

pub all_done : {C : Type 0} (ths : List (Thread C)) → left_in ths ≡ 0 → (t : ℕ) (th : Thread C) → slice_get ths t ≡ Some th → th.calls ≡ []
unfolding left_in
all_done [] none t th at = absurd (none-some th at)
all_done {C = C} (x ∷ xs) none zero th at = subst (λ (th : Thread C). th.calls ≡ []) (same_Some x th at) (empty x.calls (omega (arith, none)))
  where
    empty : (calls : List C) → length calls ≤ 0 → calls ≡ []
    empty [] low = refl
    empty (c ∷ cs) low = absurd (omega (arith, low))
all_done (x ∷ xs) none (suc t) th at = all_done xs (omega (arith, none)) t th at

-- one that has as many calls as another stands in its place
set_same : {C : Type 0} (ths : List (Thread C)) (t : ℕ) (old new : Thread C) → slice_get ths t ≡ Some old → length new.calls ≡ length old.calls → left_in (set ths t new) ≡ left_in ths
unfolding left_in
set_same [] t old new at same = absurd (none-some old at)
set_same (x ∷ xs) zero old new at same = let is = ap (λ (th : Thread _). length th.calls) (same_Some x old at) in omega (arith, is, same)
set_same (x ∷ xs) (suc t) old new at same = let rest = set_same xs t old new at same in omega (arith, rest)

set_less : {C : Type 0} (ths : List (Thread C)) (t : ℕ) (old new : Thread C) → slice_get ths t ≡ Some old → length new.calls + 1 ≡ length old.calls → left_in (set ths t new) + 1 ≡ left_in ths
unfolding left_in
set_less [] t old new at less = absurd (none-some old at)
set_less (x ∷ xs) zero old new at less = let is = ap (λ (th : Thread _). length th.calls) (same_Some x old at) in omega (arith, is, less)
set_less (x ∷ xs) (suc t) old new at less = let rest = set_less xs t old new at less in omega (arith, rest)

-- the history of x is that of h and more, as many calls ended behind h as threads have fewer left, and there are as many threads
pub record Grows {V C R : Type 0} (h x : Host V C R) : Type 0 where
  pub more : List (Entry C R)
  pub history : x.history ≡ h.history ++ more
  pub counted : ends_in more + left_in x.threads ≡ left_in h.threads
  pub many : length x.threads ≡ length h.threads

module _ {V C R : Type 0} where
  pub grows_none : (h x : Host V C R) → x.history ≡ h.history → left_in x.threads ≡ left_in h.threads → length x.threads ≡ length h.threads → Grows h x
  unfolding ends_in
  grows_none h x history threads many = record { more = []; history = history ∙ sym (append-nil h.history); counted = let now = threads in omega (arith, now); many = many }

  pub grows_then : (h x y : Host V C R) → Grows h x → Grows x y → Grows h y
  grows_then h x y one two = record {
    more = one.more ++ two.more;
    history = two.history ∙ ap (λ l. l ++ two.more) one.history ∙ append_assoc h.history one.more two.more;
    counted = let sum = ends_append one.more two.more in let a = one.counted in let b = two.counted in omega (arith, sum, a, b);
    many = two.many ∙ one.many;
  }

module _ {T V C R : Type 0} (M : Model T V C R) (u : Setup) (full : Bool) (h : Host V C R) where
  same : (x : Host V C R) → x.history ≡ h.history → x.threads ≡ h.threads → Grows h x
  same x history threads = grows_none h x history (ap left_in threads) (ap length threads)

  abbrev After : Stepped V C R → Type 0
  After x = Grows h x.host

  module _ (t : ℕ) (th : Thread C) (c : C) (rest : List C) (at : slice_get h.threads t ≡ Some th) (is : th.calls ≡ c ∷ rest) where
    -- one entry more
    ends : (x : Host V C R) (w : What R) → x.history ≡ h.history ++ record { thread = t; call = c; what = w } ∷ [] → (new : Thread C) → x.threads ≡ set h.threads t new → one_if w + length new.calls ≡ length th.calls → Grows h x
    unfolding ends_in
    ends x Begins history new threads less = record {
      more = record { thread = t; call = c; what = Begins } ∷ [];
      history = history;
      counted = let now = ap left_in threads ∙ set_same h.threads t th new at (let l : 0 + length new.calls ≡ length th.calls = less in omega (arith, l)) in omega (arith, now);
      many = ap length threads ∙ length-set h.threads t new;
    }
    ends x (Ends e) history new threads less = record {
      more = record { thread = t; call = c; what = Ends e } ∷ [];
      history = history;
      counted = let now = ap left_in threads in let fall = set_less h.threads t th new at (let l : 1 + length new.calls ≡ length th.calls = less in omega (arith, l)) in omega (arith, now, fall);
      many = ap length threads ∙ length-set h.threads t new;
    }

    abbrev fewer : length rest + 1 ≡ length th.calls
    fewer = let n = ap length is in omega (arith, n)

    stands : (calls : List C) → calls ≡ c ∷ rest → length calls ≡ length th.calls
    stands calls same = ap length same ∙ sym (ap length is)

    ended : (e : Ending R) → After (end_with M u h t c rest e)
    ended e = ends _ (Ends e) refl (record { calls = rest; begun = None }) refl (let n = fewer in omega (arith, n))

    begun_ends : (b : Begun) → BegunEnds M u full h t c rest b After
    begun_ends b = record {
      done = ended (Answered M.ok);
      full_up = λ e. ended SessionFull;
      rests = λ why. same h refl refl;
      waits = λ w why. same _ refl refl;
      wants = λ w why. same _ refl refl;
      sends = λ next is_next free empty. grows_none h _ refl (set_same h.threads t th _ at (stands (c ∷ rest) refl)) (length-set h.threads t _);
    }

    fresh_ends : FreshEnds M u h t c rest After
    fresh_ends = record {
      refused = λ why e. ended (Answered why);
      begins = λ accepted kind. ends _ Begins refl _ refl (let n = stands (c ∷ rest) refl in omega (arith, n));
      full_up = λ why e limit. ended SessionFull;
      rests = λ why. same h refl refl;
      wants = λ why. same _ refl refl;
      acts = λ accepted kind free. ends _ (Ends (Answered (M.apply h.volume (length h.history + 1) h.journal.running.number c).reply)) refl (record { calls = rest; begun = None }) refl (let n = fewer in omega (arith, n));
    }

  caller_grows : (t : ℕ) → After (advance M u full h t)
  caller_grows t = caller_walk M u full h t After (same h refl refl) (λ th c rest at is. record {
    stopped = λ e stop. ended t th c rest at is e;
    goes_on = λ b going begun. begun_ends t th c rest at is b;
    starts = λ going begun. fresh_ends t th c rest at is;
  })

  checked : (homes : List Logged) → Grows h (checkpoint M u h homes)
  checked [] = same _ refl refl
  checked (x ∷ xs) = same _ refl refl

  sent : (p : Plan) (next : Planned) (rest : List Planned) → Grows h (plan_sent M u h p next rest)
  sent p next [] = same _ refl refl
  sent p next (q ∷ qs) = same _ refl refl

  commit_grows : Grows h (commit_step M u full h).host
  commit_grows = commit_walk M u full h (Grows h) (record {
    rests = same h refl refl;
    closes = same _ refl refl;
    sends_page = λ p limit free. same _ refl refl;
    checkpoints = λ limit free. checked h.journal.ring.homes;
    builds = same _ refl refl;
    sends_plan = λ p next rest phase is limit free. sent p next rest;
  })

module _ {A T V C R : Type 0} (o : Over A T V C R) where
  pub step_grows : (h : Host V C R) (e : Event) → Grows h (stepped o h e)
  step_grows h (Call full t) = caller_grows o.model o.setup full h t
  step_grows h (Commit full) = commit_grows o.model o.setup full h
  step_grows h (WriteBack full pick) = writeback_walk o.model o.setup full h (Grows h) (grows_none h h refl refl refl) (λ p ordered limit free. grows_none h _ refl refl refl) pick
  step_grows h (FlushStep full next) = flush_walk o.model o.setup full h (Grows h) (grows_none h h refl refl refl) (λ limit free. grows_none h _ refl refl refl) (λ c. grows_none h _ refl refl refl) next
  step_grows h (TakeStep next) = take_walk o.model o.setup false h (Grows h) (grows_none h h refl refl refl) (λ c. grows_none h _ refl refl refl) next

  pub steps_grow : (h : Host V C R) (events : List Event) → Grows h (steps o h events)
  steps_grow h [] = grows_none h h refl refl refl
  steps_grow h (e ∷ events) = grows_then h (stepped o h e) (steps o h (e ∷ events)) (step_grows h e) (steps_grow (stepped o h e) events)
