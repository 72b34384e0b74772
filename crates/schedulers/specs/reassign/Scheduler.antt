-- What a scheduler is: its steps over a plain state, and what they keep.
use Rattle.std.specs.Prelude.{◌≡◌, ℕ, ◌<◌, ◌≤◌, ◌++◌, ◌↔◌, ◌&&◌, not, Bool, true, false, [], ◌∷◌, length, nat_lt, Option, None}
use Rattle.std.specs.Option.{option_to_list}
use Rattle.blk_base.specs.Members.{In}
use Rattle.order_model.specs.declared.command.Command.{Command}
use Rattle.order_model.specs.declared.request.Kind.TheVariants.{Flush}
use Rattle.order_model.specs.declared.request.Request.{Request}
use Rattle.order_model.specs.declared.sched_record.SchedRecord.{SchedRecord}
use Rattle.order_model.specs.Carrying.{SchedSeen, Carries}

-- for each call of a scheduler, the state and the answer that follow from the state before
pub record SchedSteps (S : Type 0) : Type 0 where
  pub seen : S → SchedSeen
  -- whether it takes a request, and the state behind one that it took
  pub can_accept : S → Bool
  pub accepted : S → Request → S
  -- how long its list is; the command of a pick, and the state behind that
  pub eligible : S → ℕ
  pub command : S → ℕ → Option Command
  pub dispatched : S → ℕ → S

-- a request that a scheduler may be given
pub record IsAcceptable (s : SchedSeen) (r : Request) : Type 0 where
  -- fewer than it may accept in all were accepted, and none of them has its id
  pub few : length s.accepted < s.limit
  pub new : (p : Request) → In p s.accepted → p.id ≡ r.id → ⊥
  -- a barrier is order-preserving, and a flush is so and has the barrier flag
  pub barrier : r.barrier ≡ true → r.ordered ≡ true
  pub flush : r.kind ≡ Flush → (r.ordered ≡ true) × (r.barrier ≡ true)

-- It accepted nothing yet, and may accept so many requests in all, of which so many may wait.
pub record IsNewScheduler (limit capacity : ℕ) (s : SchedSeen) : Type 0 where
  pub requests : s.limit ≡ limit
  pub room : s.capacity ≡ capacity
  pub accepted : s.accepted ≡ []
  pub waiting : s.waiting ≡ []
  pub unblocked : s.blocked ≡ false
  pub sent_out : s.sent_out ≡ []

-- a request was accepted, and waits
pub record Accepts (old : SchedSeen) (r : Request) (new : SchedSeen) : Type 0 where
  pub limit : new.limit ≡ old.limit
  pub capacity : new.capacity ≡ old.capacity
  pub accepted : new.accepted ≡ old.accepted ++ r ∷ []
  pub waiting : new.waiting ≡ old.waiting ++ r.id ∷ []
  pub sent_out : new.sent_out ≡ old.sent_out

-- a command was sent out, where there was one
pub record Sends (old : SchedSeen) (command : Option Command) (new : SchedSeen) : Type 0 where
  pub limit : new.limit ≡ old.limit
  pub capacity : new.capacity ≡ old.capacity
  pub accepted : new.accepted ≡ old.accepted
  pub sent_out : new.sent_out ≡ old.sent_out ++ option_to_list command

-- what the steps of a scheduler keep, from any state that it may be in
pub record IsScheduler {S : Type 0} (steps : SchedSteps S) (valid : S → Type 0) : Type 0 where
  -- the commands that it sent out carry the requests that it accepted
  pub carries : (s : S) → valid s → Carries (steps.seen s)
  pub accepts : (s : S) (r : Request) → valid s → IsAcceptable (steps.seen s) r → steps.can_accept s ≡ true → valid (steps.accepted s r) × Accepts (steps.seen s) r (steps.seen (steps.accepted s r))
  pub dispatches : (s : S) (pick : ℕ) → valid s → valid (steps.dispatched s pick) × Sends (steps.seen s) (steps.command s pick) (steps.seen (steps.dispatched s pick))
  -- no command comes exactly where the pick is past its list, which has a request while one waits
  pub none : (s : S) (pick : ℕ) → valid s → (steps.command s pick ≡ None) ↔ (steps.eligible s ≤ pick)
  -- where no command comes, nothing changes
  pub stays : (s : S) (pick : ℕ) → steps.command s pick ≡ None → steps.dispatched s pick ≡ s
  pub some : (s : S) → valid s → 0 < length (steps.seen s).waiting → 0 < steps.eligible s
  -- it accepts a request exactly where it is not blocked and fewer wait than may
  pub can : (s : S) → valid s → steps.can_accept s ≡ (not (steps.seen s).blocked && nat_lt (length (steps.seen s).waiting) (steps.seen s).capacity)
  -- blocked, a request waits
  pub blocked : (s : S) → valid s → (steps.seen s).blocked ≡ true → 0 < length (steps.seen s).waiting

-- the record has what is seen
pub record IsSchedRecord (s : SchedSeen) (trace : SchedRecord) : Type 0 where
  pub accepted : trace.accepted.items ≡ s.accepted
  pub sent_out : trace.sent_out.items ≡ s.sent_out
