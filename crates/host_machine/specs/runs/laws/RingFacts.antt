-- What the host keeps of its ring, of its checkpoint and of the plan on its way, over the submitted list.
use Rattle.std.specs.Prelude.{◌≡◌, ℕ, ◌+◌, ◌-◌, ◌<◌, ◌≤◌, ◌⊎◌, ⊤, true, List, [], ◌∷◌, ◌++◌, length, Option, Some, None, slice_get, false}
use Rattle.blk_base.specs.Members.{In}
use Rattle.order_model.specs.OrderClosed.{IsFence}
use Rattle.order_model.specs.declared.note.Note.TheVariants.{Super, Commit, Home}
use Rattle.order_model.specs.declared.note.Note.{Note}
use Rattle.order_model.specs.declared.request.Kind.TheVariants.{Put}
use Rattle.order_model.specs.declared.request.Request.{Request}
use Rattle.log_model.specs.Log.{Spells}
use Rattle.log_model.specs.Marks.{Logged, Transaction, Set, mark_in, transactions_from}
use Rattle.log_model.specs.Ring.{places_on}
use Rattle.crash_laws.specs.Ordering.{IsClosedOff}
use Rattle.crash_laws.specs.laws.RingFacts.{IsAtHome}
use Rattle.crash_laws.specs.Rules.{HasHeader}
use Rattle.crash_laws.specs.Session.{Session, HasNote, log_transaction, IsLog, IsCommit, LogBlock, with_log_block, log_blocks, log_blocks_of, bodies_of, sequence_of, IsSuperOf}
use Rattle.crash_laws.specs.laws.Submitting.{IsCommitted}
use Rattle.journal_ring.specs.LogRing.{LogRing}
use Rattle.journal_ring.specs.running.Plan.{Planned}
use Rattle.commit_actor.specs.Journal.{Plan, Phase, Idle, Closing, Committing}
use Rattle.journal_ring.specs.laws.Homes.{IsRisingHomes, IsApart}

-- The commit blocks of transactions 1 to N are submitted, and no others. The log blocks are of transactions up
-- to M: that is N, or N + 1 while the next one is on its way.
pub record AreCommitted (s : Session) (N M : ℕ) : Type 0 where
  pub there : (k : ℕ) → 1 ≤ k → k ≤ N → IsCommitted s k
  pub only : (k c : ℕ) → IsCommit s k c → k ≤ N
  pub logs : (k i : ℕ) → IsLog s k i → k ≤ M
  pub within : N ≤ M

-- a log block is freed by a superblock behind it
abbrev pub IsFreed : Session → LogBlock → Type 0
IsFreed s e = (x freed : ℕ) × IsSuperOf s x freed × (e.id < x) × (e.transaction ≤ freed)

-- Places are handed out in order: those of the log blocks submitted so far, and `more` that a plan has yet to
-- send. The last `used` of them are in use, at most as many as the ring has; all others are freed.
pub record PlaceFacts (s : Session) (ring : LogRing) (more : ℕ) : Type 0 where
  pub places : ring.places ≡ s.ring
  pub head : ring.head ≡ places_on s.ring (length (log_blocks s) + more) s.head
  pub room : ring.used ≤ s.ring.past - s.ring.first
  pub within : more ≤ ring.used
  pub freed : (n : ℕ) (e : LogBlock) → slice_get (log_blocks s) n ≡ Some e → (length (log_blocks s) + more ≤ n + ring.used) ⊎ IsFreed s e

-- What is to be sent home are last bodies. Each last body is to be sent home, or was. Where nothing is left to
-- send, each Home has a barrier at or behind it.
pub record HomeFacts (s : Session) (N : ℕ) (homes : List Logged) : Type 0 where
  pub rising : IsRisingHomes homes
  pub newest : (l : Logged) → In l homes → mark_in (transactions_from s.transactions 1 N) l.block ≡ Set l.body
  pub pending : (b : ℕ) (x : List ℕ) → mark_in (transactions_from s.transactions 1 N) b ≡ Set x → In (record { block = b; body = x }) homes ⊎ IsAtHome s b x N
  pub closed : homes ≡ [] → (i b : ℕ) → HasNote s i (Home b) → IsClosedOff s.requests i

abbrev pub request_of : Planned → ℕ → Request
request_of q id = record { id = id; kind = Put q.block q.body; ordered = true; barrier = q.barrier }

-- how many log blocks a request with this note is
abbrev pub places_of : Note → ℕ
places_of n = length (with_log_block (log_transaction n) 0 [])

-- A request of the plan of k but its commit block, with n log blocks before: the first superblock, or a log block.
abbrev pub IsFirstSuper : Session → ℕ → Planned → Type 0
IsFirstSuper s k q = (q.note ≡ Super) × (q.block ≡ s.journal) × (s.format.tail q.body ≡ record { sequence = s.sequence; start = s.head }) × (k ≡ 1)

abbrev pub IsNextLog : Session → ℕ → ℕ → Planned → Type 0
IsNextLog s k n q = (log_transaction q.note ≡ Some k) × ((j : ℕ) → q.note ≡ Commit j → ⊥) × (q.block ≡ s.journal + places_on s.ring n s.head) × HasHeader s.sequence q.note (s.format.header q.body)

abbrev pub ArePlanned : Session → ℕ → ℕ → List Planned → Type 0
ArePlanned s k n [] = ⊤
ArePlanned s k n (q ∷ qs) = (IsFirstSuper s k q ⊎ IsNextLog s k n q) × ArePlanned s k (n + places_of q.note) qs

abbrev pub count : List Planned → ℕ
count [] = 0
count (q ∷ qs) = places_of q.note + count qs

abbrev pub if_log : Option ℕ → List ℕ → List (List ℕ)
if_log None x = []
if_log (Some k) x = x ∷ []

abbrev pub log_bytes : List Planned → List (List ℕ)
log_bytes [] = []
log_bytes (q ∷ qs) = if_log (log_transaction q.note) q.body ++ log_bytes qs

-- the last of these is a barrier
abbrev pub EndsFenced : List Planned → Type 0
EndsFenced [] = ⊤
EndsFenced (q ∷ []) = q.barrier ≡ true
EndsFenced (q ∷ r ∷ rs) = EndsFenced (r ∷ rs)

abbrev pub StartsWithSuper : List Planned → Type 0
StartsWithSuper [] = ⊥
StartsWithSuper (q ∷ qs) = q.note ≡ Super

-- A barrier stands at or behind all requests of the plan of k, and behind place `start`.
pub record IsClosed (s : Session) (k start : ℕ) : Type 0 where
  pub fence : ℕ
  pub is_fence : IsFence s.requests fence
  pub begun : start ≤ fence
  pub logs : (i : ℕ) → IsLog s k i → i ≤ fence
  pub supers : k ≡ 1 → (i : ℕ) → HasNote s i Super → i ≤ fence

-- What is left of the plan of transaction k, which was built when `start` requests were submitted.
pub record PlanFacts (s : Session) (k : ℕ) (t : Transaction) (start : ℕ) (rest : List Planned) : Type 0 where
  pub before : List Planned
  pub commit : Planned
  pub whole : rest ≡ before ++ commit ∷ []
  pub planned : ArePlanned s k (length (log_blocks s)) before
  pub last_note : commit.note ≡ Commit k
  pub last_block : commit.block ≡ s.journal + places_on s.ring (length (log_blocks s) + count before) s.head
  pub last_barrier : commit.barrier ≡ true
  pub last_header : HasHeader s.sequence (Commit k) (s.format.header commit.body)
  pub fenced : EndsFenced before
  -- all is sent but the commit block: it is closed off, or there was nothing else
  pub closed : before ≡ [] → IsClosed s k start ⊎ ((1 < k) × ((i : ℕ) → IsLog s k i → ⊥) × (t.bodies ≡ []))
  pub begun : start ≤ length s.notes
  pub first : k ≡ 1 → ((i : ℕ) × IsSuperOf s i 0) ⊎ StartsWithSuper before
  pub spells : Spells s.format (sequence_of s k) (bodies_of s (log_blocks_of k (log_blocks s)) ++ (log_bytes before ++ commit.body ∷ [])) t

abbrev pub transaction_of_plan : Plan → Transaction
transaction_of_plan p = record { bodies = p.bodies; revokes = p.revokes }

-- the superblock on the disk says that there is a log just where a transaction is committed
abbrev pub IsStarted : LogRing → ℕ → Type 0
IsStarted ring N = (ring.started ≡ true → 1 ≤ N) × (ring.started ≡ false → N ≡ 0)

-- where the plan of transaction N + 1 is on its way
pub record IsOnWay (s : Session) (ring : LogRing) (N : ℕ) (p : Plan) : Type 0 where
  pub start : ℕ
  pub numbers : AreCommitted s N (N + 1)
  pub plan : PlanFacts s (N + 1) (transaction_of_plan p) start p.rest
  pub places : PlaceFacts s ring (count p.rest)
  pub apart : IsApart (transaction_of_plan p)
  pub told : s.transactions (N + 1) ≡ transaction_of_plan p
  pub started : ring.started ≡ true

-- and where none is
pub record IsAtRest (s : Session) (ring : LogRing) (N : ℕ) : Type 0 where
  pub numbers : AreCommitted s N N
  pub places : PlaceFacts s ring 0
  pub started : IsStarted ring N

abbrev pub RingInPhase : Session → LogRing → ℕ → Phase → Type 0
RingInPhase s ring N Idle = IsAtRest s ring N
RingInPhase s ring N Closing = IsAtRest s ring N
RingInPhase s ring N (Committing p) = IsOnWay s ring N p

pub record RingKept (s : Session) (ring : LogRing) (N : ℕ) (phase : Phase) : Type 0 where
  pub homes : HomeFacts s N ring.homes
  pub in_phase : RingInPhase s ring N phase
