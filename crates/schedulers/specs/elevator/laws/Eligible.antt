-- Which requests may leave: of each block the put that was accepted first.
use Rattle.std.specs.Prelude.{◌≡◌, ℕ, ◌<◌, ◌≤◌, ◌&&◌, not, Bool, true, false, List, [], ◌∷◌, length, nat_lt, Some, slice_get, refl}
use Rattle.std.proofs.Common.{ap, sym, subst, ◌∙◌, inl, inr, ⊎_elim, arith}
use Rattle.std.proofs.lemmas.Bool.{cases_Bool, cases_lt, both_ways, false≢true, and_from, and_left, not-true, lt-ltb, le-ltb, eqb-true}
use Rattle.std.proofs.lemmas.Option.{none-some, same_Some}
use Rattle.blk_base.specs.Members.{In, IsAscending}
use Rattle.blk_base.specs.laws.Members.{IsAscending-places, IsAscending-same, IsAscending-filter, In-filter, In-slice_get, list_all-In, all-list_all}
use Rattle.order_model.specs.declared.request.Kind.{Kind}
use Rattle.order_model.specs.declared.request.Kind.TheVariants.{Put, Flush}
use Rattle.order_model.specs.OrderClosed.{is_flush, kind_block}
use Rattle.schedulers.specs.reassign.Epoch.{Waiting, have_one_block, stands_before, may_leave, eligible}
use Rattle.schedulers.specs.reassign.laws.MayLeaveLaws.{one_block}
use Rattle.schedulers.specs.elevator.Elevator.{block_of}
use Rattle.schedulers.specs.elevator.laws.List.{block_at, AreApart}

abbrev pub IsRising : List Waiting → Type 0
IsRising ws = IsAscending (λ (w : Waiting). w.number) ws

-- the request is a put of this block
abbrev pub IsPutAt : Waiting → ℕ → Type 0
IsPutAt w block = kind_block w.request.kind ≡ Some block

put_flush : (k : Kind) (block : ℕ) → kind_block k ≡ Some block → is_flush k ≡ false
put_flush (Put b body) block e = refl
put_flush Flush block e = absurd (none-some block e)

pub put-is_flush : (w : Waiting) (block : ℕ) → IsPutAt w block → is_flush w.request.kind ≡ false
put-is_flush w block e = put_flush w.request.kind block e

kind_block_of : (k : Kind) (block : ℕ) → kind_block k ≡ Some block → block_of k ≡ block
kind_block_of (Put b body) block e = same_Some b block e
kind_block_of Flush block e = absurd (none-some block e)

pub put-block : (w : Waiting) (block : ℕ) → IsPutAt w block → block_at w ≡ block
put-block w block e = kind_block_of w.request.kind block e

kind_put : (k : Kind) → is_flush k ≡ false → kind_block k ≡ Some (block_of k)
kind_put (Put b body) e = refl
kind_put Flush e = absurd (false≢true (sym e))

pub not_flush-put : (w : Waiting) → is_flush w.request.kind ≡ false → IsPutAt w (block_at w)
not_flush-put w e = kind_put w.request.kind e

block_kind : (k l : Kind) (block : ℕ) → have_one_block k l ≡ true → kind_block l ≡ Some block → kind_block k ≡ Some block
block_kind (Put a body) (Put b other) block e f = ap Some (eqb-true a b e) ∙ f
block_kind (Put a body) Flush block e f = absurd (both_ways false refl e)
block_kind Flush l block e f = absurd (both_ways false refl e)

and_none : (a b : Bool) → b ≡ false → (a && b) ≡ false
and_none true b e = e
and_none false b e = refl

-- what stands at a later place has a greater number
later : (ws : List Waiting) (i j : ℕ) (w v : Waiting) → IsRising ws → slice_get ws i ≡ Some w → slice_get ws j ≡ Some v → i ≤ j → w.number ≤ v.number
later ws i j w v rising at there le =
    ⊎_elim
    (λ lt. let less = IsAscending-places (λ (x : Waiting). x.number) ws i j w v rising lt at there in omega (arith, less))
    (λ ge.
    let e : i ≡ j = omega (arith, le, ge) in
    let same = ap (λ (x : Waiting). x.number) (same_Some w v (sym at ∙ ap (slice_get ws) e ∙ there)) in
    omega (arith, same))
    (cases_lt i j)

-- the first put of its block may leave
pub first-may_leave : (ws : List Waiting) (i block : ℕ) (w : Waiting) → IsRising ws → slice_get ws i ≡ Some w → IsPutAt w block → ((j : ℕ) (v : Waiting) → j < i → slice_get ws j ≡ Some v → IsPutAt v block → ⊥)
    → may_leave ws w ≡ true
first-may_leave ws i block w rising at put first =
    rw (put-is_flush w block put)
    (list_all-In (λ v. not (stands_before v w)) ws
    (λ v h.
    let j = In-slice_get ws v h in
    let never : stands_before v w ≡ false =
    ⊎_elim
    (λ lt.
    let n : nat_lt v.number w.number && have_one_block v.request.kind w.request.kind ≡ false =
    elim (cases_Bool (have_one_block v.request.kind w.request.kind)) [
      | inl t ↦ absurd (first j.0 v lt j.2 (block_kind v.request.kind w.request.kind block t put))
      | inr f ↦ and_none (nat_lt v.number w.number) (have_one_block v.request.kind w.request.kind) f
    ] in n)
    (λ le. and_left (nat_lt v.number w.number) (have_one_block v.request.kind w.request.kind) (le-ltb v.number w.number (later ws i j.0 w v rising at j.2 le)))
    (cases_lt j.0 i) in
    ap not never))

-- of two that may leave, no two are of one block
earlier_apart : (ws : List Waiting) (u w : Waiting) (block : ℕ) → In u ws → may_leave ws w ≡ true → IsPutAt u block → IsPutAt w block → u.number < w.number → ⊥
earlier_apart ws u w block h may p q lt =
    let all = rw (put-is_flush w block q) at may in
    let never = not-true (stands_before u w) (all-list_all (λ v. not (stands_before v w)) ws u all h) in
    let lower = lt-ltb u.number w.number lt in
    both_ways (stands_before u w) never (and_from (nat_lt u.number w.number) (have_one_block u.request.kind w.request.kind) lower (one_block u.request.kind w.request.kind block p q))

pub eligible-same : (ws : List Waiting) (u w : Waiting) (block : ℕ) → IsRising ws → In u (eligible ws) → In w (eligible ws) → IsPutAt u block → IsPutAt w block → u ≡ w
eligible-same ws u w block rising h i p q =
    let a = In-filter (may_leave ws) ws u h in
    let b = In-filter (may_leave ws) ws w i in
    ⊎_elim
    (λ lt. absurd (earlier_apart ws u w block a.0 b.1 p q lt))
    (λ ge.
    ⊎_elim
    (λ lt. absurd (earlier_apart ws w u block b.0 a.1 q p lt))
    (λ le. IsAscending-same (λ (x : Waiting). x.number) ws u w rising a.0 b.0 (omega (arith, ge, le)))
    (cases_lt w.number u.number))
    (cases_lt u.number w.number)

-- a flush may leave where nothing else waits
pub eligible-put : (ws : List Waiting) (w : Waiting) → In w (eligible ws) → (length ws ≡ 1 → ⊥) → IsPutAt w (block_at w)
eligible-put ws w h more =
    let a = In-filter (may_leave ws) ws w h in
    elim (cases_Bool (is_flush w.request.kind)) [
      | inl t ↦ absurd (more (eqb-true (length ws) 1 (rw t at a.1)))
      | inr f ↦ not_flush-put w f
    ]

-- ---- apart

apart_from : (ws es : List Waiting) → IsRising ws → (length ws ≡ 1 → ⊥) → IsRising es → ((w : Waiting) → In w es → In w (eligible ws)) → AreApart es
apart_from ws [] rising more order all = tt
apart_from ws (e ∷ es) rising more order all = (
  λ v h same.
      let first = all e (inl refl) in
      let other = all v (inr h) in
      let p = eligible-put ws e first more in
      let q = eligible-put ws v other more in
      let one = eligible-same ws e v (block_at e) rising first other p (subst (IsPutAt v) (sym same) q) in
      let lt = order.0 v h in
      let n = ap (λ (x : Waiting). x.number) one in
      absurd (omega (arith, lt, n)),
  apart_from ws es rising more order.1 (λ w h. all w (inr h)),
)

pub eligible-apart : (ws : List Waiting) → IsRising ws → (length ws ≡ 1 → ⊥) → AreApart (eligible ws)
eligible-apart ws rising more =
    apart_from ws (eligible ws) rising more (IsAscending-filter (λ (w : Waiting). w.number) (may_leave ws) ws rising) (λ w h. h)

-- what waits alone may leave
pub only-may_leave : (w : Waiting) → may_leave (w ∷ []) w ≡ true
only-may_leave w =
    elim (cases_Bool (is_flush w.request.kind)) [
      | inl t ↦ rw t refl
      | inr f ↦
          let same = le-ltb w.number w.number (omega arith) in
          let never = and_left (nat_lt w.number w.number) (have_one_block w.request.kind w.request.kind) same in
          rw f (list_all-In (λ v. not (stands_before v w)) (w ∷ [])
          (λ v h. ⊎_elim (λ e. subst (λ x. not (stands_before x w) ≡ true) e (ap not never)) (λ none. absurd none) h))
    ]
