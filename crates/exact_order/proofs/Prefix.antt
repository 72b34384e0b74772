-- What is order-closed for the first requests is so for all of them.
use Rattle.std.proofs.Common.{◌≡◌, ℕ, ◌<◌, ◌||◌, List, length, Option, slice_get, sym, ap, subst, ◌∙◌, arith, inl, inr, ⊎_elim, IsTrue, IsSomeAnd}
use Rattle.std.specs.Option.{option_and_then}
use Rattle.std.proofs.lemmas.Bool.{cases_lt}
use Rattle.std.proofs.lemmas.Option.{none-some}
use Rattle.blk_base.specs.laws.Members.{slice_get-out, slice_get-in_range}
use Rattle.order_model.specs.declared.request.Kind.TheVariants.{Flush}
use Rattle.order_model.specs.declared.request.Request.{Request}
use Rattle.order_model.specs.OrderClosed.{is_flush, kind_block, kind_body, IsPutOf, IsOrderedBefore, IsOrderClosed}
use Rattle.order_model.specs.Carrying.{IsPrefixOf}
use Rattle.order_model.proofs.OrderToTheMedium.{prefix-get}

prefix-same : (xs ys : List Request) (i : ℕ) → IsPrefixOf xs ys → i < length xs → slice_get ys i ≡ slice_get xs i
prefix-same xs ys i front lt =
    let x = slice_get-in_range xs i lt in
    prefix-get xs ys i x.0 front x.1 ∙ sym x.1

module _ {xs qs : List Request} (front : IsPrefixOf xs qs) where
  put_range : (i block : ℕ) → IsPutOf xs i block → i < length xs
  put_range i block put =
      ⊎_elim (λ lt. lt)
      (λ le. absurd (none-some block (ap (option_and_then (λ (r : Request). kind_block r.kind)) (sym (slice_get-out xs i le)) ∙ put)))
      (cases_lt i (length xs))

  put_up : (i block : ℕ) → IsPutOf xs i block → IsPutOf qs i block
  put_up i block put = ap (option_and_then (λ (r : Request). kind_block r.kind)) (prefix-same xs qs i front (put_range i block put)) ∙ put

  put_down : (i block : ℕ) → i < length xs → IsPutOf qs i block → IsPutOf xs i block
  put_down i block lt put = ap (option_and_then (λ (r : Request). kind_block r.kind)) (sym (prefix-same xs qs i front lt)) ∙ put

  before_down : (i j : ℕ) → j < length xs → IsOrderedBefore qs i j → IsOrderedBefore xs i j
  before_down i j lt (inl before) =
      let b = before.fence.0 in
      let le = before.fence.1 in
      let less = before.fence.2 in
      inl (record {
        first = (before.first.0, put_down i before.first.0 (omega arith) before.first.1);
        ordered = subst (λ o. IsSomeAnd o (λ (r : Request). IsTrue r.ordered)) (prefix-same xs qs i front (omega arith)) before.ordered;
        second = (before.second.0, put_down j before.second.0 lt before.second.1);
        fence = (b, le, less, subst (λ o. IsSomeAnd o (λ (r : Request). IsTrue (r.barrier || is_flush r.kind))) (prefix-same xs qs b front (omega arith)) before.fence.3);
      })
  before_down i j lt (inr before) =
      let f = before.flush.0 in
      let le = before.flush.1 in
      let less = before.flush.2 in
      inr (record {
        first = (before.first.0, put_down i before.first.0 (omega arith) before.first.1);
        second = (before.second.0, put_down j before.second.0 lt before.second.1);
        flush = (f, le, less, subst (λ o. IsSomeAnd o (λ (r : Request). r.kind ≡ Flush)) (prefix-same xs qs f front (omega arith)) before.flush.3);
      })

  pub closed_for_all : {base image : List (List ℕ)} {origins : List (Option ℕ)} → IsOrderClosed base xs image origins → IsOrderClosed base qs image origins
  closed_for_all {base} {image} {origins} c = record {
    blocks = c.blocks;
    places = c.places;
    block_of = λ block id has. put_up id block (c.block_of block id has);
    body_of = λ block id body has at.
        ap (option_and_then (λ (r : Request). kind_body r.kind)) (prefix-same xs qs id front (put_range id block (c.block_of block id has))) ∙ c.body_of block id body has at;
    base_of = c.base_of;
    closed = λ i j before kept.
        let near = put_range kept.origin kept.block (c.block_of kept.block kept.origin kept.held) in
        let later = kept.later in
        let k = c.closed i j (before_down i j (omega arith) before)
        (record { block = kept.block; put = put_down j kept.block (omega arith) kept.put; origin = kept.origin; held = kept.held; later = later }) in
        record { block = k.block; put = put_up i k.block k.put; origin = k.origin; held = k.held; later = k.later };
  }
