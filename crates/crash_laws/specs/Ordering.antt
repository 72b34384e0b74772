-- Order alone: a barrier between two places of a submitted list.
use Rattle.std.specs.Prelude.{ℕ, ◌<◌, ◌≤◌, List}
use Rattle.order_model.specs.declared.request.Request.{Request}
use Rattle.order_model.specs.OrderClosed.{IsPut, IsOrdered, IsFence}

-- a barrier or a flush stands at or after i and before j
abbrev pub Fenced : List Request → ℕ → ℕ → Type 0
Fenced requests i j = (b : ℕ) × (i ≤ b) × (b < j) × IsFence requests b

-- at place i stands an order-preserving put
pub record IsOrderedPut (requests : List Request) (i : ℕ) : Type 0 where
  pub put : IsPut requests i
  pub ordered : IsOrdered requests i

-- place i has a barrier at or behind it in this list
abbrev pub IsClosedOff : List Request → ℕ → Type 0
IsClosedOff rs i = (b : ℕ) × (i ≤ b) × IsFence rs b
