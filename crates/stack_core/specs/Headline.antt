-- What a report says of the order that the host asked for.
use Rattle.std.specs.Prelude.{ℕ, List, Option}
use Rattle.order_model.specs.declared.request.Request.{Request}
use Rattle.order_model.specs.declared.completion.Completion.{Completion}
use Rattle.order_model.specs.OrderClosed.{IsOrderClosed, KeepsFlushed}

-- The first sentence of the headline: what the power cut left is order-closed for what the host asked for,
-- and where a flush completed, whether that was handed out or not, all before it was kept.
pub record KeepsOrder (base : List (List ℕ)) (requests : List Request) (image : List (List ℕ)) (origins : List (Option ℕ)) (completed : List Completion) : Type 0 where
  pub closed : IsOrderClosed base requests image origins
  pub flushed : KeepsFlushed requests origins completed
