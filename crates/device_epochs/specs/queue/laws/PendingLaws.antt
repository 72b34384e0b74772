-- What waits in the queue, what was not done, and the faults that are still to come.
use Rattle.std.specs.Prelude.{◌≡◌, ℕ, ◌+◌, ◌-◌, ◌<◌, ◌≤◌, ◌++◌, ◌==◌, not, Bool, true, false, List, [], ◌∷◌, Option, Some, None, zero, suc, refl, if◌then◌else◌}
use Rattle.std.proofs.Common.{sym, ap, subst, ◌∙◌, inl, inr, arith}
use Rattle.std.proofs.lemmas.Bool.{cases_Bool, cases_lt, both_ways, eq-eqb, eqb-true, ne_eqb, false≢true}
use Rattle.std.proofs.lemmas.Option.{none-some, same_Some}
use Rattle.blk_base.specs.Members.{In}
use Rattle.blk_base.specs.laws.Members.{In-push_left}
use Rattle.device_epochs.specs.queue.Queue.{Waiting, AreNumbered, without}
use Rattle.device_epochs.specs.queue.Faults.{is_next, is_number, counted}
use Rattle.device_epochs.specs.queue.laws.QueueLaws.{AreNumbered-filter, number-lt, In-without}
use Rattle.device_epochs.specs.queue.Facts.{in_queue, PendingFacts, FaultFacts}
use Rattle.device_epochs.specs.queue.Faults.{to_come}

-- ---- what waits, and what was not done

in_queue-In : (lost : Option ℕ) (pending : List Waiting) (w : Waiting) → In w (in_queue lost pending) → In w pending
in_queue-In None pending w h = h
in_queue-In (Some n) pending w h = (In-without n pending w h).0

pub waits-pending : (ws pending : List Waiting) (lost : Option ℕ) (failed : Bool) (w : Waiting) → PendingFacts ws pending lost failed → In w ws → In w pending
waits-pending ws pending lost failed w f h = in_queue-In lost pending w (subst (In w) f.queue h)

-- where no transfer failed, nothing is lost
pub nothing-lost : (ws pending : List Waiting) (lost : Option ℕ) (failed : Bool) → PendingFacts ws pending lost failed → failed ≡ false → lost ≡ None
nothing-lost ws pending None failed f n = refl
nothing-lost ws pending (Some k) failed f n = absurd (both_ways failed n f.known)

pub all-wait : (ws pending : List Waiting) (lost : Option ℕ) (failed : Bool) → PendingFacts ws pending lost failed → failed ≡ false → ws ≡ pending
all-wait ws pending lost failed f n = f.queue ∙ ap (λ o. in_queue o pending) (nothing-lost ws pending lost failed f n)

pub in_queue-numbered : (n : ℕ) (lost : Option ℕ) (pending : List Waiting) → AreNumbered n pending → AreNumbered n (in_queue lost pending)
in_queue-numbered n None pending a = a
in_queue-numbered n (Some k) pending a = AreNumbered-filter (λ w. not (w.number == k)) n pending a

-- ---- how each call changes them

without-push : (k : ℕ) (ws : List Waiting) (w : Waiting) → (w.number ≡ k → ⊥) → without k (ws ++ w ∷ []) ≡ without k ws ++ w ∷ []
without-push k [] w ne = let out = ne_eqb w.number k ne in rw out refl
without-push k (v ∷ vs) w ne =
    let rest = without-push k vs w ne in
    elim (cases_Bool (v.number == k)) [
      | inl t ↦ rw t rest
      | inr f ↦ rw f (ap (λ (l : List Waiting). v ∷ l) rest)
    ]

in_queue-push : (lost : Option ℕ) (pending : List Waiting) (w : Waiting) → ((n : ℕ) → lost ≡ Some n → w.number ≡ n → ⊥) → in_queue lost (pending ++ w ∷ []) ≡ in_queue lost pending ++ w ∷ []
in_queue-push None pending w ne = refl
in_queue-push (Some k) pending w ne = without-push k pending w (ne k refl)

-- what is lost arrived before the next command
pub lost-lt : (next : ℕ) (ws pending : List Waiting) (lost : Option ℕ) (failed : Bool) → PendingFacts ws pending lost failed → AreNumbered next pending → (n : ℕ) → lost ≡ Some n → n < next
lost-lt next ws pending lost failed f a n e =
    let t = f.there n e in
    let lt = number-lt next pending t.0 a t.1 in
    let same = t.2 in
    omega arith

pub pending-received : (next : ℕ) (ws pending : List Waiting) (lost : Option ℕ) (failed : Bool) (w : Waiting) → PendingFacts ws pending lost failed → AreNumbered next pending → w.number ≡ next → PendingFacts (ws ++ w ∷ []) (pending ++ w ∷ []) lost failed
pending-received next ws pending lost failed w f a at =
    record {
      queue =
          ap (λ (l : List Waiting). l ++ w ∷ []) f.queue
          ∙ sym (in_queue-push lost pending w (λ n e same. let lt = lost-lt next ws pending lost failed f a n e in omega arith));
      known = f.known;
      there = λ n e. let t = f.there n e in (t.0, In-push_left pending w t.0 t.1, t.2);
    }

pub pending-moved : (ws pending : List Waiting) (lost : Option ℕ) (failed : Bool) (n : ℕ) → PendingFacts ws pending lost failed → failed ≡ false → PendingFacts (without n ws) (without n pending) None failed
pending-moved ws pending lost failed n f none =
    record { queue = ap (without n) (all-wait ws pending lost failed f none); known = none; there = λ k e. absurd (none-some k e) }

pub pending-failed : (ws pending : List Waiting) (lost : Option ℕ) (failed : Bool) (w : Waiting) → PendingFacts ws pending lost failed → failed ≡ false → In w pending → PendingFacts (without w.number ws) pending (Some w.number) true
pending-failed ws pending lost failed w f none h =
    record { queue = ap (without w.number) (all-wait ws pending lost failed f none); known = refl; there = λ k e. (w, h, same_Some w.number k e) }

-- where nothing is pending, nothing waits, and no transfer failed
pub empty-waits : (ws : List Waiting) (lost : Option ℕ) (failed : Bool) → PendingFacts ws [] lost failed → (ws ≡ []) × (failed ≡ false)
empty-waits ws None failed f = (f.queue, f.known)
empty-waits ws (Some n) failed f = absurd ((f.there n refl).1)

pub lost-some : (ws pending : List Waiting) (lost : Option ℕ) (failed : Bool) → PendingFacts ws pending lost failed → failed ≡ true → (n : ℕ) × (lost ≡ Some n)
lost-some ws pending None failed f t = absurd (both_ways failed f.known t)
lost-some ws pending (Some n) failed f t = (n, refl)

-- ---- faults

pub to_come-le : (at : Option ℕ) → to_come at ≤ 1
to_come-le None = omega arith
to_come-le (Some zero) = omega arith
to_come-le (Some (suc n)) = omega arith

counted-le : (at : Option ℕ) → to_come (counted at) ≤ to_come at
counted-le None = omega arith
counted-le (Some zero) = omega arith
counted-le (Some (suc n)) = to_come-le (Some (suc n - 1))

-- the one that fails is the last that was to come
next-last : (at : Option ℕ) → is_next at ≡ true → (to_come at ≡ 1) × (to_come (counted at) ≡ 0)
next-last None e = absurd (false≢true e)
next-last (Some zero) e = absurd (false≢true e)
next-last (Some (suc zero)) e = (refl, refl)
next-last (Some (suc (suc n))) e = absurd (both_ways (suc (suc n) == 1) (ne_eqb (suc (suc n)) 1 (λ same. omega arith)) e)

-- a number that is given, and one that is not
pub number-is : (at : Option ℕ) (n : ℕ) → is_number at n ≡ true → at ≡ Some n
number-is None n e = absurd (false≢true e)
number-is (Some k) n e = ap Some (sym (eqb-true n k e))

pub is-number : (at : Option ℕ) (n : ℕ) → at ≡ Some n → is_number at n ≡ true
is-number at n e = let same = eq-eqb n n refl in rw (e, same) refl

pub not-number : (at : Option ℕ) (n : ℕ) → is_number at n ≡ false → at ≡ Some n → ⊥
not-number at n other e = both_ways (is_number at n) other (is-number at n e)

-- a transfer was made that did not fail
pub faults-moved : (fail_at : Option ℕ) (count : ℕ) (bad_read : Option ℕ) (failed : Bool) (faults : ℕ) → FaultFacts fail_at count bad_read failed faults → failed ≡ false → is_number fail_at (count + 1) ≡ false → FaultFacts fail_at (count + 1) bad_read failed faults
faults-moved fail_at count bad_read failed faults f fine other =
    record {
      number = λ t. absurd (both_ways failed fine t);
      made = λ n e lt.
          elim (cases_lt n count) [
            | inl before ↦ f.made n e before
            | inr le ↦ let next : suc n ≡ count + 1 = omega (arith, lt, le) in absurd (not-number fail_at (count + 1) other (e ∙ ap Some next))
          ];
      few = f.few;
    }

-- one was made that failed
pub faults-failed : (fail_at : Option ℕ) (count : ℕ) (bad_read : Option ℕ) (failed : Bool) (faults : ℕ) → FaultFacts fail_at count bad_read failed faults → failed ≡ false → is_number fail_at (count + 1) ≡ true → FaultFacts fail_at (count + 1) bad_read true (faults + 1)
faults-failed fail_at count bad_read failed faults f fine this =
    let few : faults + to_come bad_read ≤ 1 = subst (λ (b : Bool). faults + to_come bad_read ≤ (if b then 2 else 1)) fine f.few in
    record { number = λ t. number-is fail_at (count + 1) this; made = λ n e lt. refl; few = omega (arith, few) }

pub faults-read : (fail_at : Option ℕ) (count : ℕ) (bad_read : Option ℕ) (failed : Bool) (faults : ℕ) → FaultFacts fail_at count bad_read failed faults → FaultFacts fail_at count (counted bad_read) failed (if is_next bad_read then faults + 1 else faults)
faults-read fail_at count bad_read failed faults f =
    let few = f.few in
    elim (cases_Bool (is_next bad_read)) [
      | inl t ↦ let last = next-last bad_read t in let one = last.0 in let none = last.1 in rw t (record { number = f.number; made = f.made; few = omega arith })
      | inr n ↦ let le = counted-le bad_read in rw n (record { number = f.number; made = f.made; few = omega arith })
    ]

pub two-or-one : (b : Bool) → (if b then 2 else 1) ≤ 2
two-or-one true = omega arith
two-or-one false = omega arith
