-- The put that the head meets next, and the list's request that it is.
use Rattle.std.proofs.Common.{◌≡◌, ℕ, ◌+◌, ◌<◌, ◌≤◌, Bool, true, false, List, [], ◌∷◌, length, Option, Some, None, slice_get, filter, refl, sym, ap, subst, ◌∙◌, arith, add-one, inl, inr, ⊎_elim}
use Rattle.std.specs.Option.{option_and_then}
use Rattle.std.proofs.lemmas.Bool.{cases_Bool, cases_lt, both_ways, false≢true}
use Rattle.std.proofs.lemmas.Option.{none-some, same_Some}
use Rattle.blk_base.specs.Members.{In}
use Rattle.blk_base.specs.laws.Members.{In-filter, filter-In, In-slice_get, slice_get-In, slice_get-out, slice_get-length}
use Rattle.order_model.specs.OrderClosed.{kind_block}
use Rattle.schedulers.specs.reassign.Epoch.{Waiting, may_leave, eligible}
use Rattle.schedulers.specs.reassign.laws.SchedulerLaws.{none_past}
use Rattle.schedulers.specs.declared.elevator.searches.Found.{Found}
use Rattle.schedulers.specs.elevator.Elevator.{meets_before, listed}
use Rattle.schedulers.specs.elevator.laws.List.{Meets, block_at, IsInOrder, meets-true, true-meets, meets-trans, in_order-In, In-in_order, length-in_order, in_order-rises, rises-at, first-is, next-is, next-none}
use Rattle.schedulers.specs.elevator.laws.Eligible.{IsRising, IsPutAt, put-block, first-may_leave, eligible-put, eligible-apart, only-may_leave}
use Rattle.schedulers.specs.elevator.code.Found.{block_there, is_behind, better_than, better, IsNextBelow, NoneBelow, IsBest, IsListedAt}

-- ---- the best of the puts so far

-- a block is met before itself by none
meets-self : (head a : ℕ) → Meets head a a → ⊥
meets-self head a (inl h) = absurd (omega (arith, h.0, h.1))
meets-self head a (inr h) = absurd (omega (arith, h.0))

misses : (head a b : ℕ) → (Meets head a b → ⊥) → meets_before head a b ≡ false
misses head a b never =
    elim (cases_Bool (meets_before head a b)) [
      | inl t ↦ absurd (never (meets-true head a b t))
      | inr f ↦ f
    ]

-- a place more, with no put of note
more_none : (ws : List Waiting) (head : ℕ) (after : Option ℕ) (n : ℕ) (best : Option Found) → IsBest ws head after n best → ((b : ℕ) → block_there ws n ≡ Some b → is_behind head after b ≡ false) → IsBest ws head after (n + 1) best
more_none ws head after n None v skip = λ j b lt there.
    ⊎_elim
    (λ less. v j b less there)
    (λ ge. let e : j ≡ n = omega (arith, lt, ge) in skip b (ap (block_there ws) (sym e) ∙ there))
    (cases_lt j n)
more_none ws head after n (Some f) v skip = record {
  within = let w = v.within in omega (arith, w);
  there = v.there;
  behind = v.behind;
  least = λ j b lt there behind.
      ⊎_elim
      (λ less. v.least j b less there behind)
      (λ ge. let e : j ≡ n = omega (arith, lt, ge) in absurd (both_ways (is_behind head after b) (skip b (ap (block_there ws) (sym e) ∙ there)) behind))
      (cases_lt j n);
  first = v.first;
}

-- the put at place n lies behind, and is the best
new_first : (ws : List Waiting) (head : ℕ) (after : Option ℕ) (n block : ℕ) → NoneBelow ws head after n → block_there ws n ≡ Some block → is_behind head after block ≡ true → IsNextBelow ws head after (n + 1) (record { at = n; block = block })
new_first ws head after n block none at behind = record {
  within = omega arith;
  there = at;
  behind = behind;
  least = λ j b lt there other.
      ⊎_elim
      (λ less. absurd (both_ways (is_behind head after b) (none j b less there) other))
      (λ ge.
      let e : j ≡ n = omega (arith, lt, ge) in
      let same : b ≡ block = same_Some b block (sym there ∙ ap (block_there ws) e ∙ at) in
      subst (λ c. meets_before head c block ≡ false) (sym same) (misses head block block (meets-self head block)))
      (cases_lt j n);
  first = λ j lt there. both_ways (is_behind head after block) (none j block lt there) behind;
}

new_best : (ws : List Waiting) (head : ℕ) (after : Option ℕ) (n block : ℕ) (f : Found) → IsNextBelow ws head after n f → block_there ws n ≡ Some block → is_behind head after block ≡ true → meets_before head block f.block ≡ true
    → IsNextBelow ws head after (n + 1) (record { at = n; block = block })
new_best ws head after n block f v at behind better = record {
  within = omega arith;
  there = at;
  behind = behind;
  least = λ j b lt there other.
      ⊎_elim
      (λ less. misses head b block (λ m. both_ways (meets_before head b f.block) (v.least j b less there other) (true-meets head b f.block (meets-trans head b block f.block m (meets-true head block f.block better)))))
      (λ ge.
      let e : j ≡ n = omega (arith, lt, ge) in
      let same : b ≡ block = same_Some b block (sym there ∙ ap (block_there ws) e ∙ at) in
      subst (λ c. meets_before head c block ≡ false) (sym same) (misses head block block (meets-self head block)))
      (cases_lt j n);
  first = λ j lt there. both_ways (meets_before head block f.block) (v.least j block lt there behind) better;
}

old_best : (ws : List Waiting) (head : ℕ) (after : Option ℕ) (n block : ℕ) (f : Found) → IsNextBelow ws head after n f → block_there ws n ≡ Some block → meets_before head block f.block ≡ false → IsNextBelow ws head after (n + 1) f
old_best ws head after n block f v at worse = record {
  within = let w = v.within in omega (arith, w);
  there = v.there;
  behind = v.behind;
  least = λ j b lt there other.
      ⊎_elim
      (λ less. v.least j b less there other)
      (λ ge.
      let e : j ≡ n = omega (arith, lt, ge) in
      let same : b ≡ block = same_Some b block (sym there ∙ ap (block_there ws) e ∙ at) in
      subst (λ c. meets_before head c f.block ≡ false) (sym same) worse)
      (cases_lt j n);
  first = v.first;
}

better_behind : (ws : List Waiting) (head : ℕ) (after : Option ℕ) (n block : ℕ) (best : Option Found) → IsBest ws head after n best → block_there ws n ≡ Some block → is_behind head after block ≡ true
    → IsBest ws head after (n + 1) (better_than head best n block)
better_behind ws head after n block None v at behind = new_first ws head after n block v at behind
better_behind ws head after n block (Some f) v at behind =
    elim (cases_Bool (meets_before head block f.block)) [
      | inl t ↦ rw t (new_best ws head after n block f v at behind t)
      | inr f' ↦ rw f' (old_best ws head after n block f v at f')
    ]

pub better_keeps : (ws : List Waiting) (head : ℕ) (after : Option ℕ) (n block : ℕ) (best : Option Found) → IsBest ws head after n best → block_there ws n ≡ Some block → IsBest ws head after (n + 1) (better head after best n block)
better_keeps ws head after n block best v at =
    elim (cases_Bool (is_behind head after block)) [
      | inl t ↦ rw t (better_behind ws head after n block best v at t)
      | inr f ↦
          rw f
          (more_none ws head after n best v
          (λ b there. ap (is_behind head after) (same_Some b block (sym there ∙ at)) ∙ f))
    ]

pub skip_keeps : (ws : List Waiting) (head : ℕ) (after : Option ℕ) (n : ℕ) (best : Option Found) → IsBest ws head after n best → block_there ws n ≡ None → IsBest ws head after (n + 1) best
skip_keeps ws head after n best v none = more_none ws head after n best v (λ b there. absurd (none-some b (sym none ∙ there)))

-- ---- the list

option_there : (o : Option Waiting) (block : ℕ) → option_and_then (λ (w : Waiting). kind_block w.request.kind) o ≡ Some block → (w : Waiting) × (o ≡ Some w) × IsPutAt w block
option_there None block e = absurd (none-some block e)
option_there (Some w) block e = (w, refl, e)

-- the put at a place
pub put_there : (ws : List Waiting) (i block : ℕ) → block_there ws i ≡ Some block → (w : Waiting) × (slice_get ws i ≡ Some w) × IsPutAt w block
put_there ws i block e = option_there (slice_get ws i) block e

pub there_put : (ws : List Waiting) (i block : ℕ) (w : Waiting) → slice_get ws i ≡ Some w → IsPutAt w block → block_there ws i ≡ Some block
there_put ws i block w at put = ap (option_and_then (λ (v : Waiting). kind_block v.request.kind)) at ∙ put

-- the first put of its block stands in the list
pub first_listed : (ws : List Waiting) (head i block : ℕ) (w : Waiting) → IsRising ws → slice_get ws i ≡ Some w → IsPutAt w block → ((j : ℕ) → j < i → block_there ws j ≡ Some block → ⊥) → In w (eligible ws)
first_listed ws head i block w rising at put first =
    filter-In (may_leave ws) ws w (slice_get-In ws i w at)
    (first-may_leave ws i block w rising at put (λ j v lt there p. first j lt (there_put ws j block v there p)))

-- a request of the list is a put that waits
record IsListedPut (ws : List Waiting) (v : Waiting) : Type 0 where
  pub place : ℕ
  pub within : place < length ws
  pub there : block_there ws place ≡ Some (block_at v)

listed_put : (ws : List Waiting) (head : ℕ) (v : Waiting) → (length ws ≡ 1 → ⊥) → In v (listed head ws) → IsListedPut ws v
listed_put ws head v more h =
    let e = in_order-In head (eligible ws) v h in
    let a = In-slice_get ws v (In-filter (may_leave ws) ws v e).0 in
    record { place = a.0; within = a.1; there = there_put ws a.0 (block_at v) v a.2 (eligible-put ws v e more) }

rising_list : (ws : List Waiting) (head : ℕ) → IsRising ws → (length ws ≡ 1 → ⊥) → IsInOrder head (listed head ws)
rising_list ws head rising more = in_order-rises head (eligible ws) (eligible-apart ws rising more)

pub first_found : (ws : List Waiting) (head : ℕ) (f : Found) → IsRising ws → (length ws ≡ 1 → ⊥) → IsNextBelow ws head None (length ws) f → IsListedAt ws head 0 f.at
first_found ws head f rising more v =
    let w = put_there ws f.at f.block v.there in
    let e = first_listed ws head f.at f.block w.0 rising w.1 w.2 v.first in
    let block = put-block w.0 f.block w.2 in
    record {
      waiting = w.0;
      there = w.1;
      listed_at =
          first-is head (listed head ws) w.0 (rising_list ws head rising more) (In-in_order head (eligible ws) w.0 e)
          (λ u h m.
          let p = listed_put ws head u more h in
          both_ways (meets_before head (block_at u) f.block) (v.least p.place (block_at u) p.within p.there refl)
          (true-meets head (block_at u) f.block (subst (λ b. Meets head (block_at u) b) block m)));
    }

empty : {X : Type 0} (xs : List X) → ((x : X) → In x xs → ⊥) → slice_get xs 0 ≡ None
empty [] never = refl
empty (x ∷ xs) never = absurd (never x (inl refl))

pub none_first : (ws : List Waiting) (head : ℕ) → (length ws ≡ 1 → ⊥) → NoneBelow ws head None (length ws) → slice_get (listed head ws) 0 ≡ None
none_first ws head more none =
    empty (listed head ws)
    (λ u h. let p = listed_put ws head u more h in false≢true (sym (none p.place (block_at u) p.within p.there)))

-- the request at place n of the list, by the block of the put that it is
pub record IsFoundAt (ws : List Waiting) (head n : ℕ) (f : Found) : Type 0 where
  pub listed : IsListedAt ws head n f.at
  pub there : block_there ws f.at ≡ Some f.block

found_block : (ws : List Waiting) (head n : ℕ) (f : Found) → (v : IsFoundAt ws head n f) → block_at v.listed.waiting ≡ f.block
found_block ws head n f v =
    let w = put_there ws f.at f.block v.there in
    ap block_at (same_Some v.listed.waiting w.0 (sym v.listed.there ∙ w.1)) ∙ put-block w.0 f.block w.2

pub next_found : (ws : List Waiting) (head n : ℕ) (f g : Found) → IsRising ws → (length ws ≡ 1 → ⊥) → IsFoundAt ws head n f → IsNextBelow ws head (Some f.block) (length ws) g → IsListedAt ws head (n + 1) g.at
next_found ws head n f g rising more old v =
    let w = put_there ws g.at g.block v.there in
    let e = first_listed ws head g.at g.block w.0 rising w.1 w.2 v.first in
    let block = put-block w.0 g.block w.2 in
    let u = old.listed.waiting in
    let from = found_block ws head n f old in
    let next =
    next-is head (listed head ws) n u w.0 (rising_list ws head rising more) old.listed.listed_at (In-in_order head (eligible ws) w.0 e)
    (subst (λ b. Meets head b (block_at w.0)) (sym from) (subst (λ b. Meets head f.block b) (sym block) (meets-true head f.block g.block v.behind)))
    (λ x h m l.
    let p = listed_put ws head x more h in
    both_ways (meets_before head (block_at x) g.block)
    (v.least p.place (block_at x) p.within p.there (true-meets head f.block (block_at x) (subst (λ b. Meets head b (block_at x)) from m)))
    (true-meets head (block_at x) g.block (subst (λ b. Meets head (block_at x) b) block l))) in
    record { waiting = w.0; there = w.1; listed_at = ap (slice_get (listed head ws)) (add-one n) ∙ next }

pub none_next : (ws : List Waiting) (head n : ℕ) (f : Found) → IsRising ws → (length ws ≡ 1 → ⊥) → IsFoundAt ws head n f → NoneBelow ws head (Some f.block) (length ws) → slice_get (listed head ws) (n + 1) ≡ None
none_next ws head n f rising more old none =
    let from = found_block ws head n f old in
    ap (slice_get (listed head ws)) (add-one n)
    ∙ next-none head (listed head ws) n old.listed.waiting (rising_list ws head rising more) old.listed.listed_at
    (λ x h m.
    let p = listed_put ws head x more h in
    both_ways (is_behind head (Some f.block) (block_at x)) (none p.place (block_at x) p.within p.there) (true-meets head f.block (block_at x) (subst (λ b. Meets head b (block_at x)) from m)))

-- past the end there is none
pub none_from : {X : Type 0} (xs : List X) (i j : ℕ) → slice_get xs i ≡ None → i ≤ j → slice_get xs j ≡ None
none_from xs i j none le = slice_get-out xs j (let past = (none_past xs i).0 none in omega (arith, past, le))

-- ---- one request alone

lone : (ws : List Waiting) → length ws ≡ 1 → (w : Waiting) × (ws ≡ w ∷ [])
lone [] n = absurd (omega (arith, n))
lone (w ∷ []) n = (w, refl)
lone (w ∷ v ∷ vs) n = absurd (omega (arith, n))

lone_list : (head : ℕ) (w : Waiting) → listed head (w ∷ []) ≡ w ∷ []
lone_list head w = rw (only-may_leave w) refl

pub lone_first : (ws : List Waiting) (head : ℕ) → length ws ≡ 1 → IsListedAt ws head 0 0
lone_first ws head n =
    let w = lone ws n in
    subst (λ l. IsListedAt l head 0 0) (sym w.1)
    (record { waiting = w.0; there = refl; listed_at = ap (λ l. slice_get l 0) (lone_list head w.0) })

pub lone_none : (ws : List Waiting) (head pick : ℕ) → length ws ≡ 1 → (pick ≡ 0 → ⊥) → slice_get (listed head ws) pick ≡ None
lone_none ws head pick n more =
    let w = lone ws n in
    let e = ap (λ l. length (listed head l)) w.1 ∙ ap length (lone_list head w.0) in
    slice_get-out (listed head ws) pick (omega (arith, e, more))

-- ---- the law of the list

filter_few : (p : Waiting → Bool) (ws : List Waiting) → length (filter p ws) ≤ length ws
filter_few p [] = omega arith
filter_few p (w ∷ ws) =
    let rest = filter_few p ws in
    elim (cases_Bool (p w)) [
      | inl t ↦ rw t (omega (arith, rest))
      | inr f ↦ rw f (omega (arith, rest))
    ]

pub listed-rises : (ws : List Waiting) (head i j : ℕ) (u w : Waiting) → IsRising ws → i < j → slice_get (listed head ws) i ≡ Some u → slice_get (listed head ws) j ≡ Some w → Meets head (block_at u) (block_at w)
listed-rises ws head i j u w rising lt a b =
    let n = slice_get-length (listed head ws) j w b in
    let m = length-in_order head (eligible ws) in
    let few = filter_few (may_leave ws) ws in
    rises-at head (listed head ws) i j u w (rising_list ws head rising (λ one. omega (arith, n, m, few, one, lt))) lt a b
