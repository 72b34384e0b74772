-- A submitted list with its notes, and the words that the order rules are made of. Places are those of the
-- submitted list, where the request at place i has the id i; transactions are numbered from 1.
use Rattle.std.specs.Prelude.{◌≡◌, ℕ, ◌+◌, ◌-◌, ◌<◌, ◌==◌, List, [], ◌∷◌, Option, Some, None, length, map, slice_get, nat_lt}
use Rattle.std.specs.Option.{option_and_then, unwrap_or}
use Rattle.std.specs.List.{filter}
use Rattle.order_model.specs.declared.request.Request.{Request}
use Rattle.order_model.specs.declared.note.Note.{Note}
use Rattle.order_model.specs.declared.note.Note.TheVariants.{Super, Revoke, Descriptor, Body, Commit}
use Rattle.order_model.specs.OrderClosed.{kind_body}
use Rattle.volume_ops.specs.Volume.{disk_of}
use Rattle.log_model.specs.Log.{Format}
use Rattle.log_model.specs.Marks.{Transaction, transactions_from, replayed}
use Rattle.log_model.specs.Ring.{Ring, places_on}

-- what a host submitted, with the journal that it was for and what its transactions hold
pub record Session : Type 0 where
  -- the image that the session began with
  pub base : List (List ℕ)
  -- what was submitted, and for each request what it carries
  pub requests : List Request
  pub notes : List Note
  -- how the journal's blocks are read
  pub format : Format
  -- the block of the journal superblock, and the places of the log behind it
  pub journal : ℕ
  pub ring : Ring
  -- the place of the first log block of all
  pub head : ℕ
  -- the sequence of transaction 1
  pub sequence : ℕ
  -- the bodies and revokes of each transaction
  pub transactions : ℕ → Transaction
  -- the metadata of the base image that stays metadata, and the rest of it, which calls may give up
  pub reserved : List ℕ
  pub freeable : List ℕ

-- a medium, with an origin for each block
pub record Medium : Type 0 where
  pub image : List (List ℕ)
  pub origins : List (Option ℕ)

-- the request at place i has this note
abbrev pub HasNote : Session → ℕ → Note → Type 0
HasNote s i n = slice_get s.notes i ≡ Some n

-- the transaction whose log block a request is
abbrev pub log_transaction : Note → Option ℕ
log_transaction (Descriptor k) = Some k
log_transaction (Revoke k) = Some k
log_transaction (Body k block) = Some k
log_transaction (Commit k) = Some k
log_transaction other = None

-- at place i stands a log block of transaction k
abbrev pub IsLog : Session → ℕ → ℕ → Type 0
IsLog s k i = option_and_then log_transaction (slice_get s.notes i) ≡ Some k

-- at place i stands the commit block of transaction k
abbrev pub IsCommit : Session → ℕ → ℕ → Type 0
IsCommit s k i = HasNote s i (Commit k)

-- the bytes that the request at place i writes
abbrev pub body_at : Session → ℕ → List ℕ
body_at s i = unwrap_or (option_and_then (λ (r : Request). kind_body r.kind) (slice_get s.requests i)) []

-- a log block by its place in the submitted list
pub record LogBlock : Type 0 where
  pub id : ℕ
  pub transaction : ℕ

-- i is the place of a request; without a transaction it is no log block
abbrev pub with_log_block : Option ℕ → ℕ → List LogBlock → List LogBlock
with_log_block None i log_blocks = log_blocks
with_log_block (Some k) i log_blocks = record { id = i; transaction = k } ∷ log_blocks

-- the log blocks among requests of which the first stands at place i, in order of submission
abbrev pub log_blocks_from : ℕ → List Note → List LogBlock
log_blocks_from i [] = []
log_blocks_from i (n ∷ ns) = with_log_block (log_transaction n) i (log_blocks_from (i + 1) ns)

-- of all transactions, in order of submission
abbrev pub log_blocks : Session → List LogBlock
log_blocks s = log_blocks_from 0 s.notes

-- those of transactions below k, and of transaction k
abbrev pub log_blocks_below : ℕ → List LogBlock → List LogBlock
log_blocks_below k = filter (λ (e : LogBlock). nat_lt e.transaction k)

abbrev pub log_blocks_of : ℕ → List LogBlock → List LogBlock
log_blocks_of k = filter (λ (e : LogBlock). e.transaction == k)

-- the bytes that these log blocks write
abbrev pub bodies_of : Session → List LogBlock → List (List ℕ)
bodies_of s = map (λ (e : LogBlock). body_at s e.id)

-- the sequence of transaction k
abbrev pub sequence_of : Session → ℕ → ℕ
sequence_of s k = s.sequence + (k - 1)

-- the place at which the first log block of transaction k stands, or will stand
abbrev pub first_place : Session → ℕ → ℕ
first_place s k = places_on s.ring (length (log_blocks_below k (log_blocks s))) s.head

-- At place i stands the journal superblock that frees the log of the transactions up to `freed`: its tail
-- is the next one.
pub record IsSuperOf (s : Session) (i freed : ℕ) : Type 0 where
  pub note : HasNote s i Super
  pub fields : s.format.tail (body_at s i) ≡ record { sequence = s.sequence + freed; start = first_place s (freed + 1) }

-- transaction k is 0, which was there before the session, or its commit block is submitted
pub data IsSubmitted (s : Session) (k : ℕ) : Type 0 where
  Before : k ≡ 0 → IsSubmitted s k
  Submitted : (i : ℕ) → IsCommit s k i → IsSubmitted s k

-- the commit block of transaction k stands before place i
abbrev pub CommitBefore : Session → ℕ → ℕ → Type 0
CommitBefore s k i = (c : ℕ) × IsCommit s k c × (c < i)

-- The image of transaction k: the base image with, in each block, its last body of the transactions 1 to k
-- that no revoke of theirs cancels.
abbrev pub image_of : Session → ℕ → ℕ → List ℕ
image_of s k b = replayed (transactions_from s.transactions 1 k) (disk_of s.base) b
