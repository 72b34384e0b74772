-- How what a host has left changes with one place of a list, and with one request more.
use Rattle.std.specs.Prelude.{◌≡◌, ℕ, zero, suc, ◌+◌, ◌-◌, ◌*◌, ◌<◌, ◌≤◌, nat_le, false, List, [], ◌∷◌, ◌++◌, length, set, Option, Some, None, slice_get, slice_index_or, refl}
use Rattle.std.proofs.Common.{ap, arith}
use Rattle.std.proofs.lemmas.Bool.{leb-false}
use Rattle.std.proofs.lemmas.List.{length-append}
use Rattle.std.proofs.lemmas.Option.{none-some, same_Some}
use Rattle.flush_actor.specs.declared.wait.Wait.{Wait}
use Rattle.host_machine.specs.State.{Thread}
use Rattle.system_laws.proofs.AnsweredLemmas.Rounds.{one_if_none, steps_of, unsaid}

-- what stands at a place is put there
pub put_back : {X : Type 0} (d : X) (xs : List X) (i : ℕ) → set xs i (slice_index_or xs i d) ≡ xs
put_back d [] i = refl
put_back d (x ∷ xs) zero = refl
put_back d (x ∷ xs) (suc i) = ap (λ ys. x ∷ ys) (put_back d xs i)

-- what one thread has of `steps_of`
abbrev pub steps_in : {C : Type 0} → Thread C → ℕ
steps_in th = 2 * length th.calls + one_if_none th.begun

pub steps_set : {C : Type 0} (ths : List (Thread C)) (t : ℕ) (old new : Thread C) → slice_get ths t ≡ Some old → steps_of (set ths t new) + steps_in old ≡ steps_of ths + steps_in new
unfolding steps_of
steps_set [] t old new at = absurd (none-some old at)
steps_set (x ∷ xs) zero old new at = let is = ap steps_in (same_Some x old at) in omega (arith, is)
steps_set (x ∷ xs) (suc t) old new at = let rest = steps_set xs t old new at in omega (arith, rest)

-- what one call has of `unsaid`
abbrev pub unsaid_in : Wait → ℕ
unsaid_in w = one_if_none w.target + one_if_none w.need

one_at_most : {X : Type 0} (o : Option X) → one_if_none o ≤ 1
one_at_most None = omega arith
one_at_most (Some x) = omega arith

pub unsaid_set : (ws : List Wait) (t : ℕ) (w : Wait) → unsaid (set ws t w) ≤ unsaid ws + 2
unfolding unsaid
unsaid_set [] t w = omega arith
unsaid_set (x ∷ xs) zero w = let a = one_at_most w.target in let b = one_at_most w.need in omega (arith, a, b)
unsaid_set (x ∷ xs) (suc t) w = let rest = unsaid_set xs t w in omega (arith, rest)

pub unsaid_less : (d : Wait) (ws : List Wait) (t : ℕ) (w : Wait) → t < length ws → unsaid_in w < unsaid_in (slice_index_or ws t d) → unsaid (set ws t w) < unsaid ws
unfolding unsaid
unsaid_less d [] t w low less = absurd (omega (arith, low))
unsaid_less d (x ∷ xs) zero w low less = omega (arith, less)
unsaid_less d (x ∷ xs) (suc t) w low less = let rest = unsaid_less d xs t w (omega (arith, low)) less in omega (arith, rest)

-- one more of which there may be so many
pub one_more : {X : Type 0} (limit : ℕ) (xs : List X) (x : X) → nat_le limit (length xs) ≡ false → limit - length (xs ++ x ∷ []) < limit - length xs
one_more limit xs x free =
    let low = leb-false limit (length xs) free in
    let long = length-append xs (x ∷ []) in
    omega (arith, low, long)
