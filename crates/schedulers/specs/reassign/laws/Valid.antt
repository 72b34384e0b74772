-- What every scheduler keeps, whatever was accepted and picked.
use Rattle.std.specs.Prelude.{◌≡◌, ℕ, ◌+◌, ◌<◌, ◌≤◌, ◌||◌, ◌⊎◌, Bool, true, false, List, length, count_by, Some, slice_get, if◌then◌else◌}
use Rattle.blk_base.specs.Members.{In, IsAscending}
use Rattle.order_model.specs.declared.command.Command.{Command}
use Rattle.order_model.specs.declared.request.Request.{Request}
use Rattle.order_model.specs.OrderClosed.{is_flush, IsPutOf, IsOrdered, IsFence, IsFlushAt}
use Rattle.schedulers.specs.declared.reassign.closing.Closing.TheVariants as closings
use Rattle.schedulers.specs.reassign.Epoch.{Waiting, is_open, is_blocked, unflagged}
use Rattle.order_model.specs.Single.{command_of_request}
use Rattle.order_model.specs.Received.{IsBarrier}
use Rattle.schedulers.specs.reassign.Sched.{SchedState}

-- command k is that of the request at place i; a flush left with the flag
pub record Went (s : SchedState) (i k : ℕ) : Type 0 where
  pub request : Request
  pub flagged : Bool
  pub accepted : slice_get s.accepted i ≡ Some request
  pub sent : slice_get s.sent_out k ≡ Some (command_of_request request flagged)
  pub flag : is_flush request.kind ≡ true → flagged ≡ true

-- what waits is the accepted request at the place that its number says, a put without its barrier flag
pub record IsFrom (accepted : List Request) (w : Waiting) : Type 0 where
  pub request : Request
  pub taken : slice_get accepted w.number ≡ Some request
  pub same : w.request ≡ unflagged request

-- something was accepted after place b, or may be
abbrev pub IsPassed : SchedState → ℕ → Type 0
IsPassed s b = (b + 1 < length s.accepted) ⊎ (is_open s.queue.closing ≡ true)

-- Command p is a barrier command that stands for the fence at place b: at or after the commands of what is
-- order-preserving up to b, and before those of all that was accepted after b.
pub record StandsFor (s : SchedState) (b p : ℕ) : Type 0 where
  pub barrier : IsBarrier s.sent_out p
  pub before : (i k : ℕ) → i ≤ b → IsOrdered s.accepted i → Went s i k → k ≤ p
  pub after : (j l : ℕ) → b < j → Went s j l → p < l

-- the barrier that was accepted last closes the queue, and something order-preserving waits
pub record IsEpochClosing (s : SchedState) : Type 0 where
  pub waiting : Waiting
  pub there : In waiting s.queue.waiting
  pub ordered : waiting.request.ordered ≡ true
  pub place : ℕ
  pub request : Request
  pub last : place + 1 ≡ length s.accepted
  pub at : slice_get s.accepted place ≡ Some request
  pub barrier : request.barrier ≡ true
  pub put : is_flush request.kind ≡ false

-- the flush that was accepted last closes the queue, and waits
pub record IsFlushClosing (s : SchedState) : Type 0 where
  pub waiting : Waiting
  pub there : In waiting s.queue.waiting
  pub flush : is_flush waiting.request.kind ≡ true
  pub last : waiting.number + 1 ≡ length s.accepted

pub record IsValid (s : SchedState) : Type 0 where
  pub few : length s.accepted ≤ s.limit
  -- the ids of what was accepted differ
  pub ids : (i j : ℕ) (p q : Request) → slice_get s.accepted i ≡ Some p → slice_get s.accepted j ≡ Some q → p.id ≡ q.id → i ≡ j
  pub next : s.queue.next ≡ length s.accepted
  pub waiting : (w : Waiting) → In w s.queue.waiting → IsFrom s.accepted w
  -- no more than may
  pub room : length s.queue.waiting ≤ s.queue.capacity
  -- in order of acceptance
  pub ascending : IsAscending (λ (w : Waiting). w.number) s.queue.waiting
  pub counted : length s.sent_out + length s.queue.waiting ≡ length s.accepted
  -- each accepted request waits or went, not both, and once
  pub somewhere : (i : ℕ) → i < length s.accepted → ((w : Waiting) × In w s.queue.waiting × (w.number ≡ i)) ⊎ ((k : ℕ) × Went s i k)
  pub not_both : (w : Waiting) (k : ℕ) → In w s.queue.waiting → Went s w.number k → ⊥
  pub once : (i k l : ℕ) → Went s i k → Went s i l → k ≡ l
  pub made : (k : ℕ) → k < length s.sent_out → (i : ℕ) × Went s i k
  -- what is order-preserving and waits was accepted after each fence that was passed, and what waits at
  -- all after each such flush
  pub behind_fence : (w : Waiting) (b : ℕ) → In w s.queue.waiting → w.request.ordered ≡ true → IsFence s.accepted b → IsPassed s b → b < w.number
  pub behind_flush : (w : Waiting) (b : ℕ) → In w s.queue.waiting → IsFlushAt s.accepted b → IsPassed s b → b < w.number
  -- a barrier command stands for each fence that was passed
  pub fences : (b : ℕ) → IsFence s.accepted b → IsPassed s b → (p : ℕ) × StandsFor s b p
  -- the order of puts of one block, and of what was accepted before and after a flush
  pub blocks : (i j l block : ℕ) → i < j → IsPutOf s.accepted i block → IsPutOf s.accepted j block → Went s j l → (k : ℕ) × Went s i k × (k < l)
  pub before_flush : (i f l : ℕ) → i < f → IsFlushAt s.accepted f → Went s f l → (k : ℕ) × Went s i k × (k < l)
  pub after_flush : (f j l : ℕ) → f < j → IsFlushAt s.accepted f → Went s j l → (k : ℕ) × Went s f k × (k < l)
  -- what has not left while the queue is closed
  pub epoch_closing : s.queue.closing ≡ closings.Barrier → IsEpochClosing s
  pub flush_closing : s.queue.closing ≡ closings.Flush → IsFlushClosing s
  pub count : count_by (λ (c : Command). c.barrier) s.sent_out + (if is_blocked s.queue then 1 else 0) ≡ count_by (λ (r : Request). r.barrier || is_flush r.kind) s.accepted
