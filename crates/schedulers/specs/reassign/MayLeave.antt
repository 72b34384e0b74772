-- Which requests may leave a scheduler, which of them leaves as the barrier, and what keeps the scheduler from
-- accepting: said of the requests that were accepted, by their places, and of those of them that wait.
use Rattle.std.specs.Prelude.{◌≡◌, ℕ, ◌<◌, ◌≤◌, ◌⊎◌}
use Rattle.order_model.specs.OrderClosed.{IsPut, IsPutOf, IsOrdered, IsFence, IsFlushAt}
use Rattle.order_model.specs.Carrying.{SchedSeen, IsWaitingAt}

-- The request at place i waits, and none that waits stands in its way: before a put stands each put of its block
-- that was accepted earlier, before a flush everything else. Nothing else is asked: a put may overtake all others.
pub record MayLeave (s : SchedSeen) (i : ℕ) : Type 0 where
  pub waits : IsWaitingAt s i
  pub earlier : (j block : ℕ) → j < i → IsWaitingAt s j → IsPutOf s.accepted j block → IsPutOf s.accepted i block → ⊥
  pub alone : IsFlushAt s.accepted i → (j : ℕ) → IsWaitingAt s j → j ≡ i

-- The request at place i is the last order-preserving one of an epoch that a barrier closed: a put with the barrier
-- flag was accepted at its place or later, and no other order-preserving request waits.
pub record IsLastOfEpoch (s : SchedSeen) (i : ℕ) : Type 0 where
  pub ordered : IsOrdered s.accepted i
  pub barrier : (b : ℕ) × (i ≤ b) × IsPut s.accepted b × IsFence s.accepted b
  pub last : (j : ℕ) → IsWaitingAt s j → IsOrdered s.accepted j → j ≡ i

-- the request at place i leaves as the barrier: a flush, and the last of an epoch that a barrier closed
abbrev pub LeavesAsBarrier : SchedSeen → ℕ → Type 0
LeavesAsBarrier s i = IsFlushAt s.accepted i ⊎ IsLastOfEpoch s i

-- The epoch of a barrier that was accepted, or a flush, has not left: such a request waits, and at its place or
-- later a barrier or a flush was accepted.
pub record HasNotLeft (s : SchedSeen) : Type 0 where
  pub place : ℕ
  pub waits : IsWaitingAt s place
  pub kept : IsOrdered s.accepted place ⊎ IsFlushAt s.accepted place
  pub fence : (b : ℕ) × (place ≤ b) × IsFence s.accepted b
