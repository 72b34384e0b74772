-- Laws of the ring of places.
use Rattle.std.specs.Prelude.{◌≡◌, ◌≢◌, ℕ, zero, suc, ◌+◌, ◌-◌, ◌<◌, ◌==◌, Bool, true, false, List, [], ◌∷◌, ◌++◌, map, length, Some, slice_get, if◌then◌else◌, refl}
use Rattle.std.proofs.Common.{sym, ap, subst, ◌∙◌, inl, inr, ⊎_elim, arith, false-eqb, eq-eqb, ne_eqb}
use Rattle.std.proofs.lemmas.Bool.{cases_lt, cond-true, cond-false}
use Rattle.blk_base.specs.Members.{In}
use Rattle.log_model.specs.Ring.{Ring, IsPlace, place_after, places_on, places_from}

-- ---- the ring

pub places_on-add : (r : Ring) (n m p : ℕ) → places_on r (n + m) p ≡ places_on r m (places_on r n p)
places_on-add r zero m p = let e : zero + m ≡ m = omega arith in ap (λ k. places_on r k p) e
places_on-add r (suc n) m p =
    let e : suc n + m ≡ suc (n + m) = omega arith in
    ap (λ k. places_on r k p) e ∙ places_on-add r n m (place_after r p)

pub places_from-add : (r : Ring) (n m p : ℕ) → places_from r (n + m) p ≡ places_from r n p ++ places_from r m (places_on r n p)
places_from-add r zero m p = let e : zero + m ≡ m = omega arith in ap (λ k. places_from r k p) e
places_from-add r (suc n) m p =
    let e : suc n + m ≡ suc (n + m) = omega arith in
    ap (λ k. places_from r k p) e ∙ ap (λ ps. p ∷ ps) (places_from-add r n m (place_after r p))

after_test : (r : Ring) (p : ℕ) (t : Bool) → p + 1 == r.past ≡ t → IsPlace r p → IsPlace r (if t then r.first else p + 1)
after_test r p true e h = let lo = h.0 in let hi = h.1 in (omega arith, omega arith)
after_test r p false e h =
    let lo = h.0 in let hi = h.1 in
    let apart : p + 1 ≢ r.past = false-eqb (p + 1) r.past (sym e) in
    (omega arith, omega arith)

pub place_after-place : (r : Ring) (p : ℕ) → IsPlace r p → IsPlace r (place_after r p)
place_after-place r p h = after_test r p (p + 1 == r.past) refl h

pub places_on-place : (r : Ring) (n p : ℕ) → IsPlace r p → IsPlace r (places_on r n p)
places_on-place r zero p h = h
places_on-place r (suc n) p h = places_on-place r n (place_after r p) (place_after-place r p h)

pub places_from-place : (r : Ring) (n p q : ℕ) → IsPlace r p → In q (places_from r n p) → IsPlace r q
places_from-place r zero p q h i = absurd i
places_from-place r (suc n) p q h (inl e) = subst (IsPlace r) e h
places_from-place r (suc n) p q h (inr i) = places_from-place r n (place_after r p) q (place_after-place r p h) i

-- the blocks at consecutive places, one by one
pub read_places : (r : Ring) (disk : ℕ → List ℕ) (bodies : List (List ℕ)) (p : ℕ) → ((t : ℕ) (x : List ℕ) → slice_get bodies t ≡ Some x → disk (places_on r t p) ≡ x) → map disk (places_from r (length bodies) p) ≡ bodies
read_places r disk [] p same = refl
read_places r disk (x ∷ xs) p same =
    ap (λ y. y ∷ map disk (places_from r (length xs) (place_after r p))) (same zero x refl)
    ∙ ap (λ ys. x ∷ ys) (read_places r disk xs (place_after r p) (λ t y e. same (suc t) y e))

-- ---- once round

pub place_after-up : (r : Ring) (p : ℕ) → p + 1 < r.past → place_after r p ≡ p + 1
place_after-up r p lt = cond-false (p + 1 == r.past) r.first (p + 1) (ne_eqb (p + 1) r.past (λ e. omega arith))

pub place_after-last : (r : Ring) (p : ℕ) → p + 1 ≡ r.past → place_after r p ≡ r.first
place_after-last r p e = cond-true (p + 1 == r.past) r.first (p + 1) (eq-eqb (p + 1) r.past e)

pub places_on-up : (r : Ring) (n p : ℕ) → p + n < r.past → places_on r n p ≡ p + n
places_on-up r zero p lt = omega arith
places_on-up r (suc n) p lt =
    let rest = places_on-up r n (p + 1) (omega arith) in
    let e : p + 1 + n ≡ p + suc n = omega arith in
    ap (places_on r n) (place_after-up r p (omega arith)) ∙ rest ∙ e

-- after as many places as the ring has, it is the same place again
pub once_round : (r : Ring) (p : ℕ) → IsPlace r p → places_on r (r.past - r.first) p ≡ p
once_round r p at =
    let lo = at.0 in
    let hi = at.1 in
    let up = r.past - 1 - p in
    let size : r.past - r.first ≡ up + (1 + (p - r.first)) = omega arith in
    let last = places_on-up r up p (omega arith) in
    let end : p + up + 1 ≡ r.past = omega arith in
    let back = places_on-up r (p - r.first) r.first (omega arith) in
    let here : r.first + (p - r.first) ≡ p = omega arith in
    ap (λ n. places_on r n p) size
    ∙ places_on-add r up (1 + (p - r.first)) p
    ∙ ap (places_on r (1 + (p - r.first))) last
    ∙ places_on-add r 1 (p - r.first) (p + up)
    ∙ ap (places_on r (p - r.first)) (place_after-last r (p + up) end)
    ∙ back
    ∙ here

-- ---- no place comes back before the ring is round

no_return_up : (r : Ring) (d p : ℕ) → IsPlace r p → 0 < d → p + d < r.past → places_on r d p ≢ p
no_return_up r d p at pos lt same = let up = places_on-up r d p lt in absurd (omega arith)

pub no_return : (r : Ring) (d p : ℕ) → IsPlace r p → 0 < d → d < r.past - r.first → places_on r d p ≢ p
no_return r d p at pos lt =
    ⊎_elim
    (λ within. no_return_up r d p at pos within)
    (λ past.
    let lo = at.0 in
    let hi = at.1 in
    let up = r.past - 1 - p in
    let rest = d - (up + 1) in
    let size : d ≡ up + (1 + rest) = omega arith in
    let end : p + up + 1 ≡ r.past = omega arith in
    let there : places_on r d p ≡ r.first + rest =
    ap (λ n. places_on r n p) size
    ∙ places_on-add r up (1 + rest) p
    ∙ ap (places_on r (1 + rest)) (places_on-up r up p (omega arith))
    ∙ places_on-add r 1 rest (p + up)
    ∙ ap (places_on r rest) (place_after-last r (p + up) end)
    ∙ places_on-up r rest r.first (omega arith) in
    λ same. omega arith)
    (cases_lt (p + d) r.past)
