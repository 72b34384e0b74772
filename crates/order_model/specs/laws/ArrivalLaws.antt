-- What waits in order of arrival: one more arrives, and one leaves.
use Rattle.std.specs.Prelude.{◌≡◌, ℕ, ◌+◌, ◌<◌, ◌==◌, not, Bool, true, false, List, [], ◌∷◌, ◌++◌, filter, length, sum_by, Some, slice_get, refl}
use Rattle.std.specs.List.{remove}
use Rattle.std.proofs.Common.{get_or, ap, sym, ◌∙◌, inl, inr, ⊎_elim, arith}
use Rattle.std.proofs.lemmas.Bool.{ne_eqb, eq-eqb, eqb-false, not-true, not_from_false}
use Rattle.std.proofs.lemmas.List.Sums.{sum_by-cons}
use Rattle.std.proofs.lemmas.Option.{get_or_from_slice_get}
use Rattle.blk_base.specs.Members.{In, IsAscending}
use Rattle.blk_base.specs.laws.Members.{In-push_cases, In-filter, In-remove, filter-In, filter_all, IsAscending-push, IsAscending-filter, IsAscending-remove, remove-ascending, slice_get-in_range}
use Rattle.order_model.specs.Arrivals.{AreNumbered, without}

pub AreNumbered-push : {T : Type 0} (number : T → ℕ) (next : ℕ) (ws : List T) (w : T) → AreNumbered number next ws → number w ≡ next → AreNumbered number (next + 1) (ws ++ w ∷ [])
AreNumbered-push number next ws w h e = record {
  rising = IsAscending-push number ws w h.rising (λ v i. let lt = h.below v i in omega (arith, lt, e));
  below = λ v i.
      ⊎_elim
      (λ old. let lt = h.below v old in omega (arith, lt))
      (λ new. let same = ap number new in omega (arith, same, e))
      (In-push_cases ws w v i);
}

pub AreNumbered-filter : {T : Type 0} (number : T → ℕ) (p : T → Bool) (next : ℕ) (ws : List T) → AreNumbered number next ws → AreNumbered number next (filter p ws)
AreNumbered-filter number p next ws h = record {
  rising = IsAscending-filter number p ws h.rising;
  below = λ w i. h.below w (In-filter p ws w i).0;
}

pub AreNumbered-remove : {T : Type 0} (number : T → ℕ) (next : ℕ) (ws : List T) (i : ℕ) → AreNumbered number next ws → AreNumbered number next (remove ws i)
AreNumbered-remove number next ws i h = record {
  rising = IsAscending-remove number ws i h.rising;
  below = λ w k. h.below w (In-remove ws i w k);
}

-- ---- one leaves

-- the one at place i, where it is there
pub there-is : {T : Type 0} (ws : List T) (i : ℕ) (w : T) → i < length ws → w ≡ get_or ws i w → slice_get ws i ≡ Some w
there-is ws i w lt at =
    let x = slice_get-in_range ws i lt in
    x.1 ∙ ap Some (sym (get_or_from_slice_get ws i x.0 w x.1) ∙ sym at)

-- the one at place i leaves, and so the one of its number
pub remove-without : {T : Type 0} (number : T → ℕ) (next : ℕ) (ws : List T) (i : ℕ) (w : T) → AreNumbered number next ws → slice_get ws i ≡ Some w → remove ws i ≡ without number (number w) ws
remove-without number next ws i w h at = remove-ascending number ws i w h.rising at

pub In-without : {T : Type 0} (number : T → ℕ) (n : ℕ) (ws : List T) (w : T) → In w (without number n ws) → In w ws × (number w ≡ n → ⊥)
In-without number n ws w h =
    let i = In-filter (λ v. not (number v == n)) ws w h in
    (i.0, eqb-false (number w) n (not-true (number w == n) i.1))

pub without-In : {T : Type 0} (number : T → ℕ) (n : ℕ) (ws : List T) (w : T) → In w ws → (number w ≡ n → ⊥) → In w (without number n ws)
without-In number n ws w h ne =
    filter-In (λ v. not (number v == n)) ws w h (not_from_false (number w == n) (ne_eqb (number w) n ne))

-- what is summed over those that wait falls by the summand of the one that leaves
pub sum_by-without : {T : Type 0} (number f : T → ℕ) (ws : List T) (w : T) → IsAscending number ws → In w ws → sum_by f (without number (number w) ws) + f w ≡ sum_by f ws
sum_by-without number f [] w a h = absurd h
sum_by-without number f (v ∷ vs) w a (inl e) =
    let out : (number v == number w) ≡ true = eq-eqb (number v) (number w) (ap number e) in
    let all : without number (number w) vs ≡ vs =
    filter_all (λ x. not (number x == number w)) vs
    (λ x h.
    not_from_false (number x == number w)
    (ne_eqb (number x) (number w) (λ q. let lt = a.0 x h in let num = ap number e in omega (arith, lt, num, q)))) in
    let here : sum_by f (without number (number w) (v ∷ vs)) ≡ sum_by f (without number (number w) vs) = rw out refl in
    let first = sum_by-cons f v vs in
    let same = ap f e in
    let rest = ap (sum_by f) all in
    omega (arith, here, first, same, rest)
sum_by-without number f (v ∷ vs) w a (inr h) =
    let lt = a.0 w h in
    let out : (number v == number w) ≡ false = ne_eqb (number v) (number w) (λ q. omega (arith, lt, q)) in
    let here : sum_by f (without number (number w) (v ∷ vs)) ≡ sum_by f (v ∷ without number (number w) vs) = rw out refl in
    let one = sum_by-cons f v (without number (number w) vs) in
    let first = sum_by-cons f v vs in
    let rest = sum_by-without number f vs w a.1 h in
    omega (arith, here, one, first, rest)
