-- The origins of an order-closed medium say what it holds.
use Rattle.std.proofs.Common.{◌≡◌, ℕ, ◌<◌, List, length, Option, Some, None, slice_get, sym, subst, ◌∙◌}
use Rattle.blk_base.specs.laws.Members.{same_by_slice_get, slice_get-in_range}
use Rattle.order_model.specs.OrderClosed.{IsOrderClosed}
use Rattle.exact_order.specs.Events.{places_used}
use Rattle.exact_order.proofs.Kept.{top-used}
use Rattle.exact_order.proofs.Standing.{IsMarked}
use Rattle.order_model.specs.declared.request.Request.{Request}

module _ {base one two : List (List ℕ)} {rs : List Request} {origins : List (Option ℕ)} (a : IsOrderClosed base rs one origins) (b : IsOrderClosed base rs two origins) where
  block-same : (i : ℕ) → i < length one → (o : Option ℕ) → slice_get origins i ≡ Some o → slice_get one i ≡ slice_get two i
  block-same i lt None has = a.base_of i has ∙ sym (b.base_of i has)
  block-same i lt (Some id) has =
      let x = slice_get-in_range one i lt in
      let y = slice_get-in_range two i (subst (λ n. i < n) (a.blocks ∙ sym b.blocks) lt) in
      x.1 ∙ sym (a.body_of i id x.0 has x.1) ∙ b.body_of i id y.0 has y.1 ∙ sym y.1

  pub one-image : one ≡ two
  one-image =
      same_by_slice_get one two (a.blocks ∙ sym b.blocks)
      (λ i lt.
      let o = slice_get-in_range origins i (subst (λ n. i < n) (a.blocks ∙ sym a.places) lt) in
      block-same i lt o.0 o.1)

-- behind the last put that is to be kept the medium has these origins
origin-is : (origins ids : List (Option ℕ)) → IsMarked origins (places_used origins) ids → (i : ℕ) (o : Option ℕ) → slice_get origins i ≡ Some o → slice_get ids i ≡ slice_get origins i
origin-is origins ids m i None has = m.none i has ∙ sym has
origin-is origins ids m i (Some top) has = m.kept i top has (top-used origins i top has) ∙ sym has

pub origins-are : (origins ids : List (Option ℕ)) → length ids ≡ length origins → IsMarked origins (places_used origins) ids → ids ≡ origins
origins-are origins ids size m =
    same_by_slice_get ids origins size
    (λ i lt.
    let o = slice_get-in_range origins i (subst (λ n. i < n) size lt) in
    origin-is origins ids m i o.0 o.1)
