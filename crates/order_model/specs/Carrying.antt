-- What it means that commands carry requests. A request is named by its place in the order in which the
-- requests were accepted, a command by its place in the order in which the commands were sent out.
use Rattle.std.specs.Prelude.{◌≡◌, ℕ, ◌+◌, ◌<◌, ◌≤◌, ◌||◌, ◌==◌, ◌⊎◌, Bool, List, [], length, map, count_by, take, Some, true, false, is_some, slice_get, if◌then◌else◌}
use Rattle.blk_base.specs.Members.{In}
use Rattle.order_model.specs.declared.part.Part.{Part}
use Rattle.order_model.specs.declared.command.Command.{Command}
use Rattle.order_model.specs.declared.command.Priority.TheVariants.{Simple, Ordered}
use Rattle.order_model.specs.declared.request.Kind.{Kind}
use Rattle.order_model.specs.declared.request.Kind.TheVariants.{Put, Flush}
use Rattle.order_model.specs.declared.request.Request.{Request}
use Rattle.order_model.specs.OrderClosed.{is_flush, IsPutOf, IsFlushAt, IsFencedBefore}
use Rattle.order_model.specs.Single.{command_for}
use Rattle.order_model.specs.Received.{all_ids, IsBarrier}
use Rattle.order_model.specs.Device.{Seen, NoneTwice}

-- what is seen of a scheduler
pub record SchedSeen : Type 0 where
  -- how many requests it may accept in all
  pub limit : ℕ
  -- how many requests may wait in it
  pub capacity : ℕ
  -- the requests that it accepted, as they were submitted
  pub accepted : List Request
  -- the ids of those that wait in it
  pub waiting : List ℕ
  -- it accepts nothing before a barrier or a flush has left it
  pub blocked : Bool
  -- the commands that it sent out
  pub sent_out : List Command

-- the command has the put as a part, with its block and body, or is the flush
abbrev pub IsCarriedBy : ℕ → Kind → Command → Type 0
IsCarriedBy id (Put block body) c = In (record { id = id; block = block; body = body }) c.parts
IsCarriedBy id Flush c = c.flush ≡ Some id

-- the request at place i was sent in command k
pub record IsSentIn (s : SchedSeen) (i k : ℕ) : Type 0 where
  pub request : Request
  pub taken : slice_get s.accepted i ≡ Some request
  pub command : Command
  pub sent : slice_get s.sent_out k ≡ Some command
  pub carried : IsCarriedBy request.id request.kind command

-- the request at place i waits
pub record IsWaitingAt (s : SchedSeen) (i : ℕ) : Type 0 where
  pub request : Request
  pub taken : slice_get s.accepted i ≡ Some request
  pub waits : In request.id s.waiting

-- a request with this id that asks for this was accepted
pub record WasAccepted (s : SchedSeen) (id : ℕ) (kind : Kind) : Type 0 where
  pub place : ℕ
  pub request : Request
  pub taken : slice_get s.accepted place ≡ Some request
  pub named : request.id ≡ id
  pub same : request.kind ≡ kind

-- The commands that were sent out carry the requests that were accepted and do not wait.
pub record Carries (s : SchedSeen) : Type 0 where
  pub few : length s.accepted ≤ s.limit
  -- each accepted request waits or was sent, not both, and no id was sent twice
  pub somewhere : (i : ℕ) → i < length s.accepted → IsWaitingAt s i ⊎ ((k : ℕ) × IsSentIn s i k)
  pub not_both : (i k : ℕ) → IsWaitingAt s i → IsSentIn s i k → ⊥
  pub once : NoneTwice (all_ids s.sent_out)
  pub counted : length (all_ids s.sent_out) + length s.waiting ≡ length s.accepted
  -- each part is an accepted put with its block and body, each flush an accepted flush
  pub parts : (c : Command) (p : Part) → In c s.sent_out → In p c.parts → WasAccepted s p.id (Put p.block p.body)
  pub flushes : (c : Command) (id : ℕ) → In c s.sent_out → c.flush ≡ Some id → WasAccepted s id Flush
  -- a flush has no part, and every other command has some
  pub whole : (c : Command) → In c s.sent_out → is_some c.flush ≡ (length c.parts == 0)
  -- what is fenced off before a request that was sent was sent, and a barrier command stands at or after its
  -- command and before that of the other
  pub ordered : (i j l : ℕ) → IsFencedBefore s.accepted i j → IsSentIn s j l → (k : ℕ) × (b : ℕ) × IsSentIn s i k × (k ≤ b) × (b < l) × IsBarrier s.sent_out b
  -- puts of one block are sent in order, in commands of their own
  pub blocks : (i j l block : ℕ) → i < j → IsPutOf s.accepted i block → IsPutOf s.accepted j block → IsSentIn s j l → (k : ℕ) × IsSentIn s i k × (k < l)
  -- a flush is sent behind all that was accepted before it, and before all that was accepted after it
  pub before_flush : (i f l : ℕ) → i < f → IsFlushAt s.accepted f → IsSentIn s f l → (k : ℕ) × IsSentIn s i k × (k < l)
  pub after_flush : (f j l : ℕ) → f < j → IsFlushAt s.accepted f → IsSentIn s j l → (k : ℕ) × IsSentIn s f k × (k < l)
  -- a command is ORDERED exactly where it has the barrier flag, and a flush has it
  pub priority : (c : Command) → In c s.sent_out → c.priority ≡ (if c.barrier then Ordered else Simple)
  pub flush_flag : (c : Command) (id : ℕ) → In c s.sent_out → c.flush ≡ Some id → c.barrier ≡ true
  -- there are as many barrier commands as barriers and flushes accepted, less one while it is blocked
  pub count : count_by (λ (c : Command). c.barrier) s.sent_out + (if s.blocked then 1 else 0) ≡ count_by (λ (r : Request). r.barrier || is_flush r.kind) s.accepted
  -- a command has at most 16 parts
  pub small : (c : Command) → In c s.sent_out → length c.parts ≤ 16

-- ---- between host and device

-- the request at place i has the id i
abbrev pub AreAtIds : List Request → Type 0
AreAtIds requests = (i : ℕ) (r : Request) → slice_get requests i ≡ Some r → r.id ≡ i

-- xs is a prefix of ys
abbrev pub IsPrefixOf : {X : Type 0} → List X → List X → Type 0
IsPrefixOf xs ys = (n : ℕ) × (xs ≡ take n ys)

-- The first requests of what was submitted were accepted, and the device took the first commands of what was
-- sent out, each in order.
pub record Fits (submitted : List Request) (s : SchedSeen) (d : Seen) : Type 0 where
  pub accepted : IsPrefixOf s.accepted submitted
  pub took : IsPrefixOf d.took s.sent_out

-- each flush has the barrier flag
abbrev pub FlushesAreBarriers : List Request → Type 0
FlushesAreBarriers requests = (i : ℕ) (r : Request) → slice_get requests i ≡ Some r → r.kind ≡ Flush → r.barrier ≡ true

-- Each request was sent as a command of its own, in order.
abbrev pub sent_alone : List Request → SchedSeen
sent_alone requests = record { limit = length requests; capacity = length requests; accepted = requests; waiting = []; blocked = false; sent_out = map command_for requests }
