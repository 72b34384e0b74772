-- What an order-closed medium says of the requests before the last put that is kept.
use Rattle.std.proofs.Common.{◌≡◌, ℕ, ◌+◌, ◌<◌, ◌≤◌, ◌||◌, true, false, List, [], ◌∷◌, length, nat_lt, Option, Some, None, slice_get, if◌then◌else◌, refl, sym, ap, subst, ◌∙◌, inl, inr, ⊎_elim, arith, zero, suc, IsTrue}
use Rattle.std.specs.Option.{option_map_or, option_and_then}
use Rattle.std.proofs.lemmas.Bool.{cases_Bool, cases_lt, both_ways, false≢true, lt-ltb, le-ltb, le-leb, leb-true, or_left}
use Rattle.std.proofs.lemmas.Option.{none-some, same_Some}
use Rattle.blk_base.specs.laws.Members.{slice_get-out}
use Rattle.order_model.specs.declared.request.Kind.{Kind}
use Rattle.order_model.specs.declared.request.Kind.TheVariants.{Put, Flush}
use Rattle.order_model.specs.declared.request.Request.{Request}
use Rattle.order_model.specs.OrderClosed.{is_flush, kind_block, IsPutOf, IsPut, IsOrderedBefore, IsKept, IsOrderClosed}
use Rattle.schedulers.specs.reassign.laws.WentLaws.{holds_at}
use Rattle.script_grammar.specs.Grammar.{IsRequestOf}
use Rattle.exact_order.specs.Events.{is_kept_under, is_kept_at, is_wanted, places_used}

-- ---- what origins keep

kept_origin : (o : Option (Option ℕ)) (id : ℕ) → option_map_or (λ x. is_kept_under x id) o false ≡ true → (top : ℕ) × (o ≡ Some (Some top)) × (id ≤ top)
kept_origin None id e = absurd (false≢true e)
kept_origin (Some None) id e = absurd (false≢true e)
kept_origin (Some (Some top)) id e = (top, refl, leb-true id top e)

-- the origin of a block of which a put is kept
pub kept-top : (origins : List (Option ℕ)) (block id : ℕ) → is_kept_at origins block id ≡ true → (top : ℕ) × (slice_get origins block ≡ Some (Some top)) × (id ≤ top)
kept-top origins block id e = kept_origin (slice_get origins block) id e

pub kind-wanted : (origins : List (Option ℕ)) (k : Kind) (block id top : ℕ) → kind_block k ≡ Some block → slice_get origins block ≡ Some (Some top) → id ≤ top → is_wanted origins id k ≡ true
kind-wanted origins (Put b body) block id top e held le =
    let at : slice_get origins b ≡ Some (Some top) = ap (slice_get origins) (same_Some b block e) ∙ held in
    ap (λ o. option_map_or (λ x. is_kept_under x id) o false) at ∙ le-leb id top le
kind-wanted origins Flush block id top e held le = absurd (none-some block e)

-- ---- the last put that is kept

used-more : (top n : ℕ) → (top < (if nat_lt top n then n else top + 1)) × (n ≤ (if nat_lt top n then n else top + 1))
used-more top n =
    ⊎_elim
    (λ lt. let t = lt-ltb top n lt in rw t (lt, omega arith))
    (λ le. let f = le-ltb top n le in rw f (omega arith, omega (arith, le)))
    (cases_lt top n)

pub top-used : (origins : List (Option ℕ)) (block top : ℕ) → slice_get origins block ≡ Some (Some top) → top < places_used origins
top-used [] block top e = absurd (none-some (Some top) e)
top-used (None ∷ os) zero top e = absurd (none-some top (same_Some None (Some top) e))
top-used (None ∷ os) (suc b) top e = top-used os b top e
top-used (Some t ∷ os) zero top e =
    let same = same_Some t top (same_Some (Some t) (Some top) e) in
    let more = (used-more t (places_used os)).0 in
    subst (λ k. k < places_used (Some t ∷ os)) same more
top-used (Some t ∷ os) (suc b) top e =
    let lt = top-used os b top e in
    let more = (used-more t (places_used os)).1 in
    omega (arith, lt, more)

-- the put that is kept last
record IsLast (origins : List (Option ℕ)) : Type 0 where
  pub block : ℕ
  pub top : ℕ
  pub held : slice_get origins block ≡ Some (Some top)
  pub last : top + 1 ≡ places_used origins

some-used : (origins : List (Option ℕ)) → 0 < places_used origins → IsLast origins
some-used [] some = absurd (omega (arith, some))
some-used (None ∷ os) some =
    let l = some-used os some in
    record { block = suc l.block; top = l.top; held = l.held; last = l.last }
some-used (Some t ∷ os) some =
    ⊎_elim
    (λ lt.
    let l = some-used os (omega (arith, lt)) in
    record { block = suc l.block; top = l.top; held = l.held; last = l.last ∙ rw (lt-ltb t (places_used os) lt) refl })
    (λ le. record { block = 0; top = t; held = refl; last = rw (le-ltb t (places_used os) le) refl })
    (cases_lt t (places_used os))

-- ---- requests

-- a put that is kept stands at the place before that behind the last one
record IsEnd (rs : List Request) (origins : List (Option ℕ)) : Type 0 where
  pub place : ℕ
  pub last : place + 1 ≡ places_used origins
  pub put : IsPut rs place
  pub kept : IsKept rs origins place

module _ {base image : List (List ℕ)} {rs : List Request} {origins : List (Option ℕ)} (c : IsOrderClosed base rs image origins) where
  pub kept-wanted : (i : ℕ) (p : Request) → slice_get rs i ≡ Some p → IsKept rs origins i → is_wanted origins i p.kind ≡ true
  kept-wanted i p at k =
      kind-wanted origins p.kind k.block i k.origin (ap (option_and_then (λ (r : Request). kind_block r.kind)) (sym at) ∙ k.put) k.held k.later

  -- nothing that is not wanted is ordered before a put that is kept
  not_before : (i j : ℕ) (p : Request) → slice_get rs i ≡ Some p → is_wanted origins i p.kind ≡ false → IsKept rs origins j → IsOrderedBefore rs i j → ⊥
  not_before i j p at left kept before =
      both_ways (is_wanted origins i p.kind) left (kept-wanted i p at (c.closed i j before kept))

  the_end : 0 < places_used origins → IsEnd rs origins
  the_end some =
      let l = some-used origins some in
      let put = c.block_of l.block l.top l.held in
      record {
        place = l.top;
        last = l.last;
        put = (l.block, put);
        kept = record { block = l.block; put = put; origin = l.top; held = l.held; later = omega arith };
      }

  -- that place is there
  pub used-within : places_used origins ≤ length rs
  used-within =
      ⊎_elim
      (λ some.
      let e = the_end some in
      let last = e.last in
      ⊎_elim
      (λ lt. omega (arith, last, lt))
      (λ le. absurd (none-some e.put.0 (ap (option_and_then (λ (r : Request). kind_block r.kind)) (sym (slice_get-out rs e.place le)) ∙ e.put.1)))
      (cases_lt e.place (length rs)))
      (λ none. omega (arith, none))
      (cases_lt 0 (places_used origins))

  put-of : (i : ℕ) (p : Request) (k : Kind) → slice_get rs i ≡ Some p → p.kind ≡ k → is_wanted origins i k ≡ false → IsPut rs i
  put-of i p (Put block body) at kind left =
      (block, ap (option_and_then (λ (r : Request). kind_block r.kind)) at ∙ ap kind_block kind)
  put-of i p Flush at kind left = absurd (false≢true (sym left))

  -- a put that is not kept stands before no flush
  pub flushed-out : (i f : ℕ) (p r : Request) → slice_get rs i ≡ Some p → is_wanted origins i p.kind ≡ false → slice_get rs f ≡ Some r → r.kind ≡ Flush → i < f → f < places_used origins → ⊥
  flushed-out i f p r at left there flush lt within =
      let e = the_end (omega (arith, within)) in
      let last = e.last in
      ⊎_elim
      (λ less.
      not_before i e.place p at left e.kept
      (inr (record {
        first = put-of i p p.kind at refl left;
        second = e.put;
        flush = (f, lt, less, holds_at (λ (q : Request). q.kind ≡ Flush) (slice_get rs f) r there flush);
      })))
      (λ le.
      let same : f ≡ e.place = omega (arith, le, last, within) in
      let put : kind_block r.kind ≡ Some e.put.0 = ap (option_and_then (λ (q : Request). kind_block q.kind)) (sym there) ∙ subst (λ n. IsPutOf rs n e.put.0) (sym same) e.put.1 in
      none-some e.put.0 (sym (ap kind_block flush) ∙ put))
      (cases_lt f e.place)

  -- an order-preserving put that is not kept stands before no barrier, and is none, but where that is kept last
  pub fenced-out : (i b : ℕ) (p r : Request) → slice_get rs i ≡ Some p → is_wanted origins i p.kind ≡ false → p.ordered ≡ true → slice_get rs b ≡ Some r → r.barrier ≡ true → i ≤ b → b + 1 < places_used origins → ⊥
  fenced-out i b p r at left ordered there barrier le within =
      let e = the_end (omega (arith, within)) in
      let last = e.last in
      not_before i e.place p at left e.kept
      (inl (record {
        first = put-of i p p.kind at refl left;
        ordered = holds_at (λ (q : Request). IsTrue q.ordered) (slice_get rs i) p at ordered;
        second = e.put;
        fence = (b, le, omega (arith, last, within), holds_at (λ (q : Request). IsTrue (q.barrier || is_flush q.kind)) (slice_get rs b) r there (or_left r.barrier (is_flush r.kind) barrier));
      }))

  -- a request that is not wanted is no barrier
  pub no-barrier : (i blocks : ℕ) (p : Request) → slice_get rs i ≡ Some p → is_wanted origins i p.kind ≡ false → IsRequestOf blocks i p → i < places_used origins → p.barrier ≡ false
  no-barrier i blocks p at left is within =
      elim (cases_Bool p.barrier) [
        | inl t ↦
            let e = the_end (omega (arith, within)) in
            let last = e.last in
            ⊎_elim
            (λ less. absurd (fenced-out i i p p at left (is.ordered t) at t (omega arith) (omega (arith, less, last))))
            (λ le.
            let same : e.place ≡ i = omega (arith, le, last, within) in
            absurd (both_ways (is_wanted origins i p.kind) left (kept-wanted i p at (subst (IsKept rs origins) same e.kept))))
            (cases_lt i e.place)
        | inr f ↦ f
      ]
