-- One queue of requests in which barriers are reassigned: a barrier that enters closes the queue, and the
-- order-preserving put that leaves last carries the flag. After Won et al., Barrier-Enabled IO Stack for
-- Flash Storage, FAST 2018.
use Rattle.std.specs.Prelude.{ℕ, ◌+◌, ◌==◌, ◌||◌, ◌&&◌, not, Bool, true, false, List, [], ◌∷◌, ◌++◌, length, nat_lt, Option, Some, None, if◌then◌else◌}
use Rattle.std.specs.List.{list_any, list_all}
use Rattle.order_model.specs.declared.request.Kind.{Kind}
use Rattle.order_model.specs.declared.request.Kind.TheVariants.{Put}
use Rattle.order_model.specs.declared.request.Request.{Request}
use Rattle.order_model.specs.OrderClosed.{is_flush}
use Rattle.order_model.specs.Arrivals as arrivals
use Rattle.schedulers.specs.declared.reassign.closing.Closing.{Closing}
use Rattle.schedulers.specs.declared.reassign.closing.Closing.TheVariants as closings

-- a request that waits, with its number in the order of acceptance, from 0 on
pub record Waiting : Type 0 where
  pub number : ℕ
  pub request : Request

-- how many may wait, the number of the next one, those that wait in order of acceptance, and what closes
-- the queue
pub record EpochState : Type 0 where
  pub capacity : ℕ
  pub next : ℕ
  pub waiting : List Waiting
  pub closing : Closing

abbrev pub is_open : Closing → Bool
is_open closings.Open = true
is_open closings.Barrier = false
is_open closings.Flush = false

-- a barrier closes the queue, and not a flush
abbrev pub is_barrier_closing : Closing → Bool
is_barrier_closing closings.Open = false
is_barrier_closing closings.Barrier = true
is_barrier_closing closings.Flush = false

-- the queue accepts nothing until what closes it has left
abbrev pub is_blocked : EpochState → Bool
is_blocked s = not (is_open s.closing)

-- as many wait as may
abbrev pub is_full : EpochState → Bool
is_full s = length s.waiting == s.capacity

-- nothing closes the queue, and it has room
abbrev pub can_accept : EpochState → Bool
can_accept s = is_open s.closing && not (is_full s)

-- ---- accepting

-- a request as it waits: a put without its barrier flag
abbrev pub unflagged : Request → Request
unflagged r = record { id = r.id; kind = r.kind; ordered = r.ordered; barrier = r.barrier && is_flush r.kind }

-- what closes the queue behind a request
abbrev pub closing_of : Request → Closing
closing_of r = if is_flush r.kind then closings.Flush else (if r.barrier then closings.Barrier else closings.Open)

-- the request waits, a put without its barrier flag; a barrier or a flush closes the queue
abbrev pub accepted : EpochState → Request → EpochState
accepted s r = record s {
  next = s.next + 1;
  waiting = s.waiting ++ record { number = s.next; request = unflagged r } ∷ [];
  closing = closing_of r;
}

-- ---- leaving

-- both are puts, of one block
abbrev pub have_one_block : Kind → Kind → Bool
have_one_block (Put a body) (Put b other) = a == b
have_one_block k l = false

-- v was accepted before w, and both are puts of one block
abbrev pub stands_before : Waiting → Waiting → Bool
stands_before v w = nat_lt v.number w.number && have_one_block v.request.kind w.request.kind

-- A put may leave where no earlier put of its block waits; a flush, where nothing else waits.
abbrev pub may_leave : List Waiting → Waiting → Bool
may_leave waiting w =
    if is_flush w.request.kind then length waiting == 1
    else list_all (λ v. not (stands_before v w)) waiting

-- the requests that may leave, in order of acceptance
abbrev pub eligible : List Waiting → List Waiting
eligible waiting = arrivals.eligible may_leave waiting

-- all but the request with this number
abbrev pub without : ℕ → List Waiting → List Waiting
without number waiting = arrivals.without (λ (w : Waiting). w.number) number waiting

-- an order-preserving request waits
abbrev pub waits_ordered : List Waiting → Bool
waits_ordered waiting = list_any (λ w. w.request.ordered) waiting

-- The request leaves as the barrier: a flush always; a put where a barrier's epoch is closing and it is the
-- last order-preserving request of it.
abbrev pub leaves_flagged : EpochState → Waiting → Bool
leaves_flagged s w =
    is_flush w.request.kind || (is_barrier_closing s.closing && (w.request.ordered && not (waits_ordered (without w.number s.waiting))))

-- the request at place pick of the eligible list
abbrev pub picked : EpochState → ℕ → Option Waiting
picked s pick = arrivals.picked may_leave s.waiting pick

-- a request that was picked leaves; behind the flag the queue accepts again
abbrev pub departed : EpochState → Option Waiting → EpochState
departed s None = s
departed s (Some w) = record s {
  waiting = without w.number s.waiting;
  closing = (if leaves_flagged s w then closings.Open else s.closing);
}

-- what was picked, and whether it leaves as the barrier
abbrev pub leaving : EpochState → Option Waiting → Option (Request × Bool)
leaving s None = None
leaving s (Some w) = Some (w.request, leaves_flagged s w)

-- ---- what a queue keeps

-- those that wait are numbered in order of acceptance, below next
abbrev pub AreNumbered : ℕ → List Waiting → Type 0
AreNumbered next waiting = arrivals.AreNumbered (λ (w : Waiting). w.number) next waiting
