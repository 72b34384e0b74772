-- Front parts of a script's events.
use Rattle.std.proofs.Common.{◌≡◌, ℕ, ◌+◌, ◌*◌, ◌<◌, ◌≤◌, zero, suc, List, [], ◌∷◌, ◌++◌, length, map, take, Some, slice_get, refl, ap, subst, ◌∙◌, arith, add-one, inl, inr}
use Rattle.std.specs.List.{range_with_len}
use Rattle.std.proofs.lemmas.List.{take_all, length-append, length-take}
use Rattle.std.proofs.lemmas.Option.{none-some}
use Rattle.std.proofs.lemmas.List.FromFn.{length-map-range_with_len}
use Rattle.blk_base.specs.Members.{In}
use Rattle.blk_base.specs.laws.Members.{In-append_cases, In-map, In-take}
use Rattle.order_model.specs.Machine.{Machine}
use Rattle.schedulers.specs.reassign.Scheduler.{SchedSteps}
use Rattle.line_grammar.specs.declared.events.event.CoreEvent.{CoreEvent}
use Rattle.line_grammar.specs.declared.events.event.CoreEvent.TheVariants as events
use Rattle.line_grammar.specs.declared.events.event.EventLine.{EventLine}
use Rattle.line_grammar.specs.declared.events.event.EventWord.{EventWord}
use Rattle.line_grammar.specs.declared.events.event.EventWord.TheVariants.{One, Round, Back}
use Rattle.line_grammar.specs.events.WellFormed.{IsEvent, IsLineOf}
use Rattle.session_grammar.specs.Grammar.{weight}
use Rattle.session_grammar.specs.declared.limits.TheConstants.{MOST_THREADS}
use Rattle.session_grammar.specs.declared.session_script.SessionScript.{SessionScript}
use Rattle.session_grammar.specs.WellFormed.{IsWellFormed, IsEventOf, IsStepOf, IsTurnOf, expanded_of}
use Rattle.session_core.specs.run.machine.Machine.{SessionState, happens, run_events, events_of, repeated, round, back, word_events, opened_session}
use Rattle.session_core.specs.Core.{opening_of, start_of}
use Rattle.session_core.specs.code.Ends.{session_on}
use Rattle.session_core.proofs.RunLemmas.MachineLemmas.SessionRuns.{events_append}
use Rattle.session_moments.specs.Moments.{script_events, alone, front, moment}

-- ---- events alone are what they are

pub events_alone : (n : ℕ) (es : List CoreEvent) → events_of n (map alone es) ≡ es
unfolding events_of
events_alone n [] = refl
events_alone n (e ∷ es) = ap (λ xs. e ∷ xs) (events_alone n es)

pub expanded_alone : (n : ℕ) (es : List CoreEvent) → expanded_of n (map alone es) ≡ length es
expanded_alone n [] = refl
expanded_alone n (e ∷ es) = let more = expanded_alone n es in omega (arith, more)

-- ---- how many there are

length_repeated : {X : Type 0} (n : ℕ) (xs : List X) → length (repeated n xs) ≡ n * length xs
length_repeated zero xs = omega arith
length_repeated (suc n) xs =
    let here = length-append xs (repeated n xs) in
    let more = length_repeated n xs in
    omega (arith, here, more)

length_round : (n : ℕ) → length (round n) ≡ n + 8
length_round n =
    let both = length-append (map events.Call (range_with_len 1 n)) back in
    let calls = length-map-range_with_len events.Call 1 n in
    omega (arith, both, calls)

length_line : (n : ℕ) (what : EventWord) (count : ℕ) → length (repeated count (word_events n what)) ≡ weight n (record { what = what; count = count })
length_line n (One e) count = let all = length_repeated count (e ∷ []) in omega (arith, all)
length_line n Round count = length_repeated count (round n) ∙ ap (λ k. count * k) (length_round n)
length_line n Back count = length_repeated count back

pub length_events : (n : ℕ) (ls : List EventLine) → length (events_of n ls) ≡ expanded_of n ls
unfolding events_of
length_events n [] = refl
length_events n (l ∷ ls) =
    length-append (repeated l.count (word_events n l.what)) (events_of n ls)
    ∙ ap (λ k. k + length (events_of n ls)) (length_line n l.what l.count) ∙ ap (λ k. weight n l + k) (length_events n ls)

-- ---- each is an event that a line may say

record IsOne (n : ℕ) (e : CoreEvent) : Type 0 where
  event : IsEvent e
  step : IsStepOf n e

in_repeated : {X : Type 0} (n : ℕ) (xs : List X) (x : X) → In x (repeated n xs) → In x xs
in_repeated zero xs x there = absurd there
in_repeated (suc n) xs x there = elim (In-append_cases xs (repeated n xs) x there) [
  | inl here ↦ here
  | inr more ↦ in_repeated n xs x more
]

in_back : (n : ℕ) (e : CoreEvent) → In e back → IsOne n e
in_back n e (inl is) = subst (IsOne n) is (record { event = tt; step = tt })
in_back n e (inr (inl is)) = subst (IsOne n) is (record { event = tt; step = tt })
in_back n e (inr (inr (inl is))) = subst (IsOne n) is (record { event = tt; step = tt })
in_back n e (inr (inr (inr (inl is)))) = subst (IsOne n) is (record { event = omega arith; step = tt })
in_back n e (inr (inr (inr (inr (inl is))))) = subst (IsOne n) is (record { event = tt; step = tt })
in_back n e (inr (inr (inr (inr (inr (inl is)))))) = subst (IsOne n) is (record { event = omega arith; step = tt })
in_back n e (inr (inr (inr (inr (inr (inr (inl is))))))) = subst (IsOne n) is (record { event = omega arith; step = tt })
in_back n e (inr (inr (inr (inr (inr (inr (inr (inl is)))))))) = subst (IsOne n) is (record { event = tt; step = tt })
in_back n e (inr (inr (inr (inr (inr (inr (inr (inr none)))))))) = absurd none

in_range : (a n x : ℕ) → In x (range_with_len a n) → (a ≤ x) × (x < a + n)
in_range a zero x there = absurd there
in_range a (suc n) x (inl is) = (omega (arith, is), omega (arith, is))
in_range a (suc n) x (inr there) = let more = in_range (a + 1) n x there in let low = more.0 in let high = more.1 in (omega (arith, low), omega (arith, high))

in_calls : (n : ℕ) (e : CoreEvent) → n ≤ MOST_THREADS → In e (map events.Call (range_with_len 1 n)) → IsOne n e
in_calls n e few there =
    let at = In-map events.Call (range_with_len 1 n) e there in
    let within = in_range 1 n at.0 at.1 in
    let low = within.0 in
    let high = within.1 in
    subst (IsOne n) at.2 (record { event = omega (arith, high, few); step = (low, omega (arith, high)) })

in_word : (n : ℕ) (l : EventLine) (what : EventWord) (e : CoreEvent) → n ≤ MOST_THREADS → l.what ≡ what → IsEventOf n l → In e (word_events n what) → IsOne n e
in_word n l (One x) e few is of (inl same) =
    subst (IsOne n) same (record { event = (subst (λ w. IsLineOf w l.count) is of.line).0; step = subst (IsTurnOf n) is of.turn })
in_word n l (One x) e few is of (inr none) = absurd none
in_word n l Round e few is of there = elim (In-append_cases (map events.Call (range_with_len 1 n)) back e there) [
  | inl call ↦ in_calls n e few call
  | inr step ↦ in_back n e step
]
in_word n l Back e few is of there = in_back n e there

in_events : (n : ℕ) (ls : List EventLine) (e : CoreEvent) → n ≤ MOST_THREADS → ((l : EventLine) → In l ls → IsEventOf n l) → In e (events_of n ls) → IsOne n e
unfolding events_of
in_events n [] e few each there = absurd there
in_events n (l ∷ ls) e few each there = elim (In-append_cases (repeated l.count (word_events n l.what)) (events_of n ls) e there) [
  | inl here ↦ in_word n l l.what e few refl (each l (inl refl)) (in_repeated l.count (word_events n l.what) e here)
  | inr more ↦ in_events n ls e few (λ x at. each x (inr at)) more
]

line_alone : (n : ℕ) (e : CoreEvent) → IsOne n e → IsEventOf n (alone e)
line_alone n e is = record { line = (is.event, record { some = omega arith; most = omega arith }); turn = is.step }

pub formed : (s : SessionScript) (i : ℕ) → IsWellFormed s → IsWellFormed (front s i)
formed s i is =
    let n = length s.programs in
    let es = script_events s in
    record {
      sizes = is.sizes;
      width = is.width;
      header = is.header;
      threads = is.threads;
      few_calls = is.few_calls;
      calls = is.calls;
      lines = is.lines;
      events = λ l there.
          let at = In-map alone (take i es) l there in
          subst (IsEventOf n) at.2 (line_alone n at.0 (in_events n s.events at.0 is.threads is.events (In-take i es at.0 at.1)));
      expanded =
          let many = expanded_alone n (take i es) in
          let few = length-take i es in
          let all = length_events n s.events in
          let most = is.expanded in
          omega (arith, many, few, all, most);
      recovers = is.recovers;
      few_recovers = is.few_recovers;
    }

-- ---- moments

module _ {K S : Type 0} (s : SessionScript) (k : SchedSteps K) (m : Machine S) (sched : K) (dev : S) where
  first : SessionState K S
  first = opened_session (opening_of s) (start_of s) sched dev

  pub ends : (i : ℕ) → session_on (front s i) k m sched dev ≡ moment s k m sched dev i
  ends i = ap (λ es. run_events (opening_of s) k m (opened_session (opening_of s) (start_of s) sched dev) es) (events_alone (length s.programs) (take i (script_events s)))

  pub last : (i : ℕ) → length (script_events s) ≤ i → moment s k m sched dev i ≡ session_on s k m sched dev
  last i le = ap (λ es. run_events (opening_of s) k m (opened_session (opening_of s) (start_of s) sched dev) es) (take_all i (script_events s) le)

  same_some : (x y : CoreEvent) → Some x ≡ Some y → x ≡ y
  same_some x y e = cc

  take_next : (es : List CoreEvent) (i : ℕ) (e : CoreEvent) → slice_get es i ≡ Some e → take (suc i) es ≡ take i es ++ e ∷ []
  take_next [] i e at = absurd (none-some e at)
  take_next (x ∷ es) zero e at = ap (λ y. y ∷ []) (same_some x e at)
  take_next (x ∷ es) (suc i) e at = ap (λ xs. x ∷ xs) (take_next es i e at)

  pub next : (i : ℕ) (e : CoreEvent) → slice_get (script_events s) i ≡ Some e → moment s k m sched dev (i + 1) ≡ happens (opening_of s) k m (moment s k m sched dev i) e
  unfolding run_events
  next i e at =
      ap (λ es. run_events (opening_of s) k m (opened_session (opening_of s) (start_of s) sched dev) es) (ap (λ j. take j (script_events s)) (add-one i) ∙ take_next (script_events s) i e at)
      ∙ events_append (opening_of s) k m (opened_session (opening_of s) (start_of s) sched dev) (take i (script_events s)) (e ∷ [])
