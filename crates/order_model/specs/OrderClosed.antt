-- What the host asks for: one list of requests, in which the request at place i has the id i; and what it
-- means that a power cut kept their order. After the partial order of Won et al., Barrier-Enabled IO Stack
-- for Flash Storage, FAST 2018. Nothing here knows of queues, caches or epochs.
use Rattle.std.specs.Prelude.{◌≡◌, ℕ, ◌<◌, ◌≤◌, ◌||◌, ◌⊎◌, Bool, true, false, List, length, Option, Some, None, IsTrue, IsSomeAnd, slice_get}
use Rattle.std.specs.Option.{option_and_then}
use Rattle.blk_base.specs.Members.{In}
use Rattle.order_model.specs.declared.completion.Completion.{Completion}
use Rattle.order_model.specs.declared.completion.Completion.TheVariants.{Flushed}
use Rattle.order_model.specs.declared.request.Kind.{Kind}
use Rattle.order_model.specs.declared.request.Kind.TheVariants.{Put, Flush}
use Rattle.order_model.specs.declared.request.Request.{Request}

abbrev pub is_flush : Kind → Bool
is_flush (Put block body) = false
is_flush Flush = true

-- the block that a put writes
abbrev pub kind_block : Kind → Option ℕ
kind_block (Put block body) = Some block
kind_block Flush = None

-- the bytes that a put writes
abbrev pub kind_body : Kind → Option (List ℕ)
kind_body (Put block body) = Some body
kind_body Flush = None

-- at place i stands a put of this block
abbrev pub IsPutOf : List Request → ℕ → ℕ → Type 0
IsPutOf requests i block = option_and_then (λ (r : Request). kind_block r.kind) (slice_get requests i) ≡ Some block

-- at place i stands a put with this body
abbrev pub IsPutWith : List Request → ℕ → List ℕ → Type 0
IsPutWith requests i body = option_and_then (λ (r : Request). kind_body r.kind) (slice_get requests i) ≡ Some body

-- at place i stands a put
abbrev pub IsPut : List Request → ℕ → Type 0
IsPut requests i = (block : ℕ) × IsPutOf requests i block

-- at place i stands a request that keeps the order which barriers fix
abbrev pub IsOrdered : List Request → ℕ → Type 0
IsOrdered requests i = IsSomeAnd (slice_get requests i) (λ r. IsTrue r.ordered)

-- at place i stands a barrier or a flush
abbrev pub IsFence : List Request → ℕ → Type 0
IsFence requests i = IsSomeAnd (slice_get requests i) (λ r. IsTrue (r.barrier || is_flush r.kind))

-- at place i stands a flush
abbrev pub IsFlushAt : List Request → ℕ → Type 0
IsFlushAt requests i = IsSomeAnd (slice_get requests i) (λ r. r.kind ≡ Flush)

-- Request i is fenced off before request j: i is an order-preserving put, j is a put, and a barrier or a flush
-- stands at or after i and before j.
pub record IsFencedBefore (requests : List Request) (i j : ℕ) : Type 0 where
  pub first : IsPut requests i
  pub ordered : IsOrdered requests i
  pub second : IsPut requests j
  pub fence : (b : ℕ) × (i ≤ b) × (b < j) × IsFence requests b

-- Request i is flushed before request j: both are puts, order-preserving or not, and a flush stands between them.
pub record IsFlushedBefore (requests : List Request) (i j : ℕ) : Type 0 where
  pub first : IsPut requests i
  pub second : IsPut requests j
  pub flush : (f : ℕ) × (i < f) × (f < j) × IsFlushAt requests f

-- Request i is ordered before request j.
abbrev pub IsOrderedBefore : List Request → ℕ → ℕ → Type 0
IsOrderedBefore requests i j = IsFencedBefore requests i j ⊎ IsFlushedBefore requests i j

-- the origin of the block is the request with this id
abbrev pub HasOrigin : List (Option ℕ) → ℕ → ℕ → Type 0
HasOrigin origins block id = slice_get origins block ≡ Some (Some id)

-- Put i is kept: the medium holds at its block that put or a later request.
pub record IsKept (requests : List Request) (origins : List (Option ℕ)) (i : ℕ) : Type 0 where
  pub block : ℕ
  pub put : IsPutOf requests i block
  pub origin : ℕ
  pub held : HasOrigin origins block origin
  pub later : i ≤ origin

-- A medium, with an origin for each of its blocks, is order-closed for a submission over a base image: each
-- block has the body of its origin, a put of that block, or the base's where it has no origin; and with
-- each put that is kept, every put that is ordered before it is kept.
pub record IsOrderClosed (base : List (List ℕ)) (requests : List Request) (image : List (List ℕ)) (origins : List (Option ℕ)) : Type 0 where
  pub blocks : length image ≡ length base
  pub places : length origins ≡ length base
  pub block_of : (block id : ℕ) → HasOrigin origins block id → IsPutOf requests id block
  pub body_of : (block id : ℕ) (body : List ℕ) → HasOrigin origins block id → slice_get image block ≡ Some body → IsPutWith requests id body
  pub base_of : (block : ℕ) → slice_get origins block ≡ Some None → slice_get image block ≡ slice_get base block
  pub closed : (i j : ℕ) → IsOrderedBefore requests i j → IsKept requests origins j → IsKept requests origins i

-- where a flush completed, every put with a smaller id is kept
abbrev pub KeepsFlushed : List Request → List (Option ℕ) → List Completion → Type 0
KeepsFlushed requests origins completed = (flush i : ℕ) → In (Flushed flush) completed → i < flush → IsPut requests i → IsKept requests origins i
