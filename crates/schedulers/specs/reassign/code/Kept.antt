-- How the requests that wait are kept, and what the searches over them answer.
use Rattle.std.specs.Prelude.{◌≡◌, ℕ, ◌≤◌, ◌<◌, List, length, Some, slice_get, slice_index_or, ◌^◌}
use Rattle.std.specs.VecDeque.{deque_len, deque_capacity}
use Rattle.schedulers.specs.declared.reassign.queue.EpochQueue.TheInside.{Inside}
use Rattle.schedulers.specs.reassign.Epoch.{Waiting, AreNumbered, eligible}

-- the request at place i of those that wait is the one at place pick of the eligible list
pub record IsPicked (waiting : List Waiting) (pick i : ℕ) : Type 0 where
  pub within : i < length waiting
  pub there : (d : Waiting) → slice_get (eligible waiting) pick ≡ Some (slice_index_or waiting i d)

-- the fields of a queue of requests
pub record IsInside (q : Inside) : Type 0 where
  pub small : q.capacity < 2 ^ 32
  pub few : deque_len q.waiting ≤ q.capacity
  pub room : q.capacity ≤ deque_capacity q.waiting
  pub numbered : AreNumbered q.next q.waiting.items
