-- "With a barrier between" as numbers: how many barriers and flushes stand before a place.
use Rattle.std.specs.Prelude.{ℕ, ◌||◌, Bool, false, List, slice_get}
use Rattle.std.specs.Option.{option_map_or}
use Rattle.order_model.specs.declared.request.Request.{Request}
use Rattle.order_model.specs.OrderClosed.{is_flush}
use Rattle.crash_laws.specs.Found.{count_below}

-- request i is a barrier or a flush
abbrev pub is_fence : List Request → ℕ → Bool
is_fence requests i = option_map_or (λ (r : Request). r.barrier || is_flush r.kind) (slice_get requests i) false

-- how many barriers and flushes stand before place i
abbrev pub epoch : List Request → ℕ → ℕ
epoch requests i = count_below (is_fence requests) i
