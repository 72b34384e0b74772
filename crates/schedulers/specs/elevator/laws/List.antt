-- The elevator's list: the requests that may leave, in the order in which the head meets them.
use Rattle.std.specs.Prelude.{◌≡◌, ℕ, ◌<◌, ◌≤◌, ◌⊎◌, zero, suc, true, false, List, [], ◌∷◌, length, nat_lt, Some, None, slice_get, refl}
use Rattle.std.proofs.Common.{ap, sym, subst, ◌∙◌, inl, inr, ⊎_elim, arith}
use Rattle.std.proofs.lemmas.Bool.{cases_Bool, cases_lt, both_ways, lt-ltb, le-ltb}
use Rattle.std.proofs.lemmas.Option.{none-some, same_Some}
use Rattle.blk_base.specs.Members.{In}
use Rattle.blk_base.specs.laws.Members.{slice_get-In}
use Rattle.schedulers.specs.reassign.Epoch.{Waiting}
use Rattle.schedulers.specs.elevator.Elevator.{block_of, meets_before, placed, in_order}

-- ---- the order of blocks

-- b lies behind the turn and a before it, or a is the lower one and both lie on one side of it
abbrev pub Meets : ℕ → ℕ → ℕ → Type 0
Meets head a b = ((b < head) × (head ≤ a)) ⊎ ((a < b) × ((b < head) ⊎ (head ≤ a)))

meets_value : (head a b : ℕ) → Meets head a b → meets_before head a b ≡ true
meets_value head a b (inl h) =
    let low = lt-ltb b head h.0 in
    let high = le-ltb a head h.1 in
    rw high (rw low refl)
meets_value head a b (inr (less, inl h)) =
    let first = lt-ltb a head (omega (arith, less, h)) in
    let second = lt-ltb b head h in
    let rising = lt-ltb a b less in
    rw first (rw second (rw rising refl))
meets_value head a b (inr (less, inr h)) =
    let high = le-ltb a head h in
    let rising = lt-ltb a b less in
    rw high
    (elim (cases_Bool (nat_lt b head)) [
      | inl t ↦ rw t refl
      | inr f ↦ rw f rising
    ])

value_misses : (head a b : ℕ) → (Meets head a b → ⊥) → meets_before head a b ≡ false
value_misses head a b never =
    ⊎_elim
    (λ low.
    ⊎_elim
    (λ less.
    ⊎_elim
    (λ h. absurd (never (inr (less, inl h))))
    (λ h. rw (lt-ltb a head low) (rw (lt-ltb a b less) (le-ltb b head h)))
    (cases_lt b head))
    (λ h. rw (lt-ltb a head low) (rw (le-ltb a b h) refl))
    (cases_lt a b))
    (λ high.
    ⊎_elim
    (λ h. absurd (never (inl (h, high))))
    (λ h.
    ⊎_elim
    (λ less. absurd (never (inr (less, inr high))))
    (λ le. rw (le-ltb a head high) (rw (le-ltb b head h) (le-ltb a b le)))
    (cases_lt a b))
    (cases_lt b head))
    (cases_lt a head)

-- which of the two holds
meets_cases : (head a b : ℕ) → Meets head a b ⊎ (Meets head a b → ⊥)
meets_cases head a b =
    ⊎_elim
    (λ low.
    ⊎_elim
    (λ less.
    ⊎_elim
    (λ h. inl (inr (less, inl h)))
    (λ h. inr (λ m. ⊎_elim (λ n. let x = n.0 in let y = n.1 in absurd (omega (arith, low, y))) (λ n. ⊎_elim (λ x. absurd (omega (arith, h, x))) (λ x. absurd (omega (arith, low, x))) n.1) m))
    (cases_lt b head))
    (λ h. inr (λ m. ⊎_elim (λ n. let y = n.1 in absurd (omega (arith, low, y))) (λ n. let x = n.0 in absurd (omega (arith, h, x))) m))
    (cases_lt a b))
    (λ high.
    ⊎_elim
    (λ h. inl (inl (h, high)))
    (λ h.
    ⊎_elim
    (λ less. inl (inr (less, inr high)))
    (λ le. inr (λ m. ⊎_elim (λ n. let x = n.0 in absurd (omega (arith, h, x))) (λ n. let x = n.0 in absurd (omega (arith, le, x))) m))
    (cases_lt a b))
    (cases_lt b head))
    (cases_lt a head)

pub meets-true : (head a b : ℕ) → meets_before head a b ≡ true → Meets head a b
meets-true head a b e =
    ⊎_elim (λ m. m) (λ never. absurd (both_ways (meets_before head a b) (value_misses head a b never) e)) (meets_cases head a b)

pub true-meets : (head a b : ℕ) → Meets head a b → meets_before head a b ≡ true
true-meets = meets_value

pub meets-asym : (head a b : ℕ) → Meets head a b → Meets head b a → ⊥
meets-asym head a b (inl h) (inl k) = absurd (omega (arith, h.0, k.1))
meets-asym head a b (inl h) (inr (less, inl k)) = absurd (omega (arith, h.1, k))
meets-asym head a b (inl h) (inr (less, inr k)) = absurd (omega (arith, h.0, k))
meets-asym head a b (inr (less, inl h)) (inl k) = absurd (omega (arith, h, k.1))
meets-asym head a b (inr (less, inr h)) (inl k) = absurd (omega (arith, h, k.0))
meets-asym head a b (inr (less, h)) (inr (more, k)) = absurd (omega (arith, less, more))

pub meets-trans : (head a b c : ℕ) → Meets head a b → Meets head b c → Meets head a c
meets-trans head a b c (inl h) (inl k) = absurd (omega (arith, h.0, k.1))
meets-trans head a b c (inl h) (inr (less, inl k)) = inl (k, h.1)
meets-trans head a b c (inl h) (inr (less, inr k)) = absurd (omega (arith, h.0, k))
meets-trans head a b c (inr (less, inl h)) (inl k) = absurd (omega (arith, h, k.1))
meets-trans head a b c (inr (less, inr h)) (inl k) = inl (k.0, h)
meets-trans head a b c (inr (less, inl h)) (inr (more, inl k)) = inr (omega (arith, less, more), inl k)
meets-trans head a b c (inr (less, inl h)) (inr (more, inr k)) = absurd (omega (arith, h, k))
meets-trans head a b c (inr (less, inr h)) (inr (more, inl k)) = absurd (omega (arith, h, k, more))
meets-trans head a b c (inr (less, inr h)) (inr (more, inr k)) = inr (omega (arith, less, more), inr h)

meets-total : (head a b : ℕ) → (a ≡ b → ⊥) → (Meets head a b → ⊥) → Meets head b a
meets-total head a b differ never =
    ⊎_elim
    (λ less.
    ⊎_elim
    (λ h. absurd (never (inr (less, inl h))))
    (λ h.
    ⊎_elim
    (λ low. inl (low, h))
    (λ high. absurd (never (inr (less, inr high))))
    (cases_lt a head))
    (cases_lt b head))
    (λ le.
    let more : b < a = omega (arith, le, differ) in
    ⊎_elim
    (λ low. inr (more, inl low))
    (λ high.
    ⊎_elim
    (λ h. absurd (never (inl (h, high))))
    (λ h. inr (more, inr h))
    (cases_lt b head))
    (cases_lt a head))
    (cases_lt a b)

-- ---- lists in this order

abbrev pub block_at : Waiting → ℕ
block_at w = block_of w.request.kind

-- each request is met before those behind it
abbrev pub IsInOrder : ℕ → List Waiting → Type 0
IsInOrder head [] = Unit {0}
IsInOrder head (w ∷ ws) = ((v : Waiting) → In v ws → Meets head (block_at w) (block_at v)) × IsInOrder head ws

-- no two requests have one block
abbrev pub AreApart : List Waiting → Type 0
AreApart [] = Unit {0}
AreApart (w ∷ ws) = ((v : Waiting) → In v ws → block_at w ≡ block_at v → ⊥) × AreApart ws

placed-In : (head : ℕ) (w : Waiting) (vs : List Waiting) (u : Waiting) → In u (placed head w vs) → (w ≡ u) ⊎ In u vs
placed-In head w [] u (inl e) = inl e
placed-In head w [] u (inr h) = absurd h
placed-In head w (v ∷ vs) u h =
    elim (cases_Bool (meets_before head (block_at w) (block_at v))) [
      | inl t ↦ (rw t at h)
      | inr f ↦
          ⊎_elim
          (λ e. inr (inl e))
          (λ i. ⊎_elim (λ e. inl e) (λ j. inr (inr j)) (placed-In head w vs u i))
          (rw f at h)
    ]

In-placed : (head : ℕ) (w : Waiting) (vs : List Waiting) (u : Waiting) → (w ≡ u) ⊎ In u vs → In u (placed head w vs)
In-placed head w [] u h = h
In-placed head w (v ∷ vs) u h =
    elim (cases_Bool (meets_before head (block_at w) (block_at v))) [
      | inl t ↦ rw t h
      | inr f ↦
          rw f
          (⊎_elim
          (λ e. inr (In-placed head w vs u (inl e)))
          (λ i. ⊎_elim (λ e. inl e) (λ j. inr (In-placed head w vs u (inr j))) i)
          h)
    ]

pub in_order-In : (head : ℕ) (ws : List Waiting) (u : Waiting) → In u (in_order head ws) → In u ws
in_order-In head [] u h = h
in_order-In head (w ∷ ws) u h =
    ⊎_elim inl (λ i. inr (in_order-In head ws u i)) (placed-In head w (in_order head ws) u h)

pub In-in_order : (head : ℕ) (ws : List Waiting) (u : Waiting) → In u ws → In u (in_order head ws)
In-in_order head [] u h = h
In-in_order head (w ∷ ws) u h =
    In-placed head w (in_order head ws) u (⊎_elim inl (λ i. inr (In-in_order head ws u i)) h)

length-placed : (head : ℕ) (w : Waiting) (vs : List Waiting) → length (placed head w vs) ≡ suc (length vs)
length-placed head w [] = refl
length-placed head w (v ∷ vs) =
    elim (cases_Bool (meets_before head (block_at w) (block_at v))) [
      | inl t ↦ rw t refl
      | inr f ↦ rw f (ap suc (length-placed head w vs))
    ]

pub length-in_order : (head : ℕ) (ws : List Waiting) → length (in_order head ws) ≡ length ws
length-in_order head [] = refl
length-in_order head (w ∷ ws) = length-placed head w (in_order head ws) ∙ ap suc (length-in_order head ws)

placed-in_order : (head : ℕ) (w : Waiting) (vs : List Waiting) → IsInOrder head vs → ((v : Waiting) → In v vs → block_at w ≡ block_at v → ⊥) → IsInOrder head (placed head w vs)
placed-in_order head w [] order differ = (λ v h. absurd h, tt)
placed-in_order head w (v ∷ vs) order differ =
    elim (cases_Bool (meets_before head (block_at w) (block_at v))) [
      | inl t ↦
          let first = meets-true head (block_at w) (block_at v) t in
          rw t (
            λ u h.
                ⊎_elim
                (λ e. subst (λ x. Meets head (block_at w) (block_at x)) e first)
                (λ i. meets-trans head (block_at w) (block_at v) (block_at u) first (order.0 u i))
                h,
            order,
          )
      | inr f ↦
          let never : Meets head (block_at w) (block_at v) → ⊥ = λ m. both_ways (meets_before head (block_at w) (block_at v)) f (true-meets head (block_at w) (block_at v) m) in
          let first = meets-total head (block_at w) (block_at v) (differ v (inl refl)) never in
          rw f (
            λ u h.
                ⊎_elim
                (λ e. subst (λ x. Meets head (block_at v) (block_at x)) e first)
                (λ i. order.0 u i)
                (placed-In head w vs u h),
            placed-in_order head w vs order.1 (λ u h. differ u (inr h)),
          )
    ]

pub in_order-rises : (head : ℕ) (ws : List Waiting) → AreApart ws → IsInOrder head (in_order head ws)
in_order-rises head [] apart = tt
in_order-rises head (w ∷ ws) apart =
    placed-in_order head w (in_order head ws) (in_order-rises head ws apart.1) (λ v h. apart.0 v (in_order-In head ws v h))

-- by places
pub rises-at : (head : ℕ) (ws : List Waiting) (i j : ℕ) (u w : Waiting) → IsInOrder head ws → i < j → slice_get ws i ≡ Some u → slice_get ws j ≡ Some w → Meets head (block_at u) (block_at w)
rises-at head [] i j u w order lt a b = absurd (none-some u a)
rises-at head (x ∷ xs) zero zero u w order lt a b = absurd (omega (arith, lt))
rises-at head (x ∷ xs) zero (suc j) u w order lt a b =
    subst (λ y. Meets head (block_at y) (block_at w)) (same_Some x u a) (order.0 w (slice_get-In xs j w b))
rises-at head (x ∷ xs) (suc i) zero u w order lt a b = absurd (omega (arith, lt))
rises-at head (x ∷ xs) (suc i) (suc j) u w order lt a b = rises-at head xs i j u w order.1 (omega (arith, lt)) a b

-- ---- the next one of a list

-- the first is the one that none is met before
pub first-is : (head : ℕ) (ws : List Waiting) (w : Waiting) → IsInOrder head ws → In w ws → ((v : Waiting) → In v ws → Meets head (block_at v) (block_at w) → ⊥) → slice_get ws 0 ≡ Some w
first-is head [] w order h least = absurd h
first-is head (x ∷ xs) w order (inl e) least = ap Some e
first-is head (x ∷ xs) w order (inr h) least = absurd (least x (inl refl) (order.0 w h))

-- the next is the one behind u that none behind u is met before
pub next-is : (head : ℕ) (ws : List Waiting) (n : ℕ) (u w : Waiting) → IsInOrder head ws → slice_get ws n ≡ Some u → In w ws → Meets head (block_at u) (block_at w)
    → ((v : Waiting) → In v ws → Meets head (block_at u) (block_at v) → Meets head (block_at v) (block_at w) → ⊥) → slice_get ws (suc n) ≡ Some w
next-is head [] n u w order at h behind least = absurd h
next-is head (x ∷ xs) zero u w order at (inl e) behind least =
    let same = ap block_at (sym (same_Some x u at) ∙ e) in
    absurd (meets-asym head (block_at u) (block_at w) behind (subst (λ b. Meets head b (block_at u)) same (subst (λ b. Meets head (block_at u) b) (sym same) behind)))
next-is head (x ∷ xs) zero u w order at (inr h) behind least =
    let same = same_Some x u at in
    first-is head xs w order.1 h (λ v i. least v (inr i) (subst (λ y. Meets head (block_at y) (block_at v)) same (order.0 v i)))
next-is head (x ∷ xs) (suc n) u w order at (inl e) behind least =
    let before = order.0 u (slice_get-In xs n u at) in
    absurd (meets-asym head (block_at u) (block_at w) behind (subst (λ y. Meets head (block_at y) (block_at u)) e before))
next-is head (x ∷ xs) (suc n) u w order at (inr h) behind least =
    next-is head xs n u w order.1 at h behind (λ v i. least v (inr i))

-- and there is none where none is met behind u
pub next-none : (head : ℕ) (ws : List Waiting) (n : ℕ) (u : Waiting) → IsInOrder head ws → slice_get ws n ≡ Some u → ((v : Waiting) → In v ws → Meets head (block_at u) (block_at v) → ⊥) → slice_get ws (suc n) ≡ None
next-none head [] n u order at never = refl
next-none head (x ∷ []) zero u order at never = refl
next-none head (x ∷ y ∷ ys) zero u order at never =
    absurd (never y (inr (inl refl)) (subst (λ z. Meets head (block_at z) (block_at y)) (same_Some x u at) (order.0 y (inl refl))))
next-none head (x ∷ xs) (suc n) u order at never = next-none head xs n u order.1 at (λ v h. never v (inr h))
