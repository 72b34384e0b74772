-- The order rules of the submitted list that the prefix of transactions rests on.
use Rattle.std.specs.Prelude.{◌≡◌, ◌≢◌, ℕ, ◌+◌, ◌-◌, ◌<◌, ◌≤◌, ◌⊎◌, Bool, true, false, List, length, Some, slice_get}
use Rattle.blk_base.specs.Members.{In}
use Rattle.order_model.specs.declared.note.Note.{Note}
use Rattle.order_model.specs.declared.note.Note.TheVariants.{Page, Super, Revoke, Descriptor, Body, Commit, Home, Flush, Raw}
use Rattle.order_model.specs.OrderClosed.{IsPutOf, IsPutWith, IsPut, IsOrdered, IsFence}
use Rattle.volume_ops.specs.Volume.{disk_of}
use Rattle.volume_ops.specs.Reads.{Reads, blocks_read}
use Rattle.log_model.specs.Log.{Tag, Header, Plain, Describes, Revokes, Commits, Spells}
use Rattle.log_model.specs.Marks.{Keep, Clear, Set, mark_in, transactions_from}
use Rattle.log_model.specs.Ring.{places_on, IsPlace}
use Rattle.crash_laws.specs.Ordering.{Fenced}
use Rattle.crash_laws.specs.Session.{Session, HasNote, IsLog, IsCommit, body_at, LogBlock, log_blocks, log_blocks_of, bodies_of, sequence_of, IsSuperOf, IsSubmitted, CommitBefore, image_of}

-- ---- requests fit their notes

abbrev pub is_page_or_flush : Note → Bool
is_page_or_flush (Page birth index call) = true
is_page_or_flush Flush = true
is_page_or_flush other = false

-- Each request goes where its note says, and all but pages keep the order of barriers.
pub record FitsNotes (s : Session) : Type 0 where
  pub counted : length s.notes ≡ length s.requests
  pub journal : 1 ≤ s.ring.first
  pub home : (i b : ℕ) → HasNote s i (Home b) → IsPutOf s.requests i b
  pub super : (i : ℕ) → HasNote s i Super → IsPutOf s.requests i s.journal
  pub log : (k i : ℕ) → IsLog s k i → (p : ℕ) × IsPlace s.ring p × IsPutOf s.requests i (s.journal + p)
  -- no page goes to the journal or to the base image's metadata
  pub page : (i birth index call : ℕ) → HasNote s i (Page birth index call) → (z : ℕ) × IsPutOf s.requests i z × (z < s.journal) × (In z s.reserved → ⊥)
  pub flush : (i : ℕ) → HasNote s i Flush → IsPut s.requests i → ⊥
  pub raw : (i : ℕ) → HasNote s i Raw → ⊥
  pub ordered : (i : ℕ) (n : Note) → HasNote s i n → is_page_or_flush n ≡ false → IsOrdered s.requests i

-- ---- commit order

-- Commit blocks are barriers and stand once. The log blocks of a transaction, its commit block among them,
-- stand behind the commit block of the one before; and before its own, with a barrier between.
pub record CommitOrder (s : Session) : Type 0 where
  pub numbered : (k i : ℕ) → IsLog s k i → 1 ≤ k
  pub once : (k i j : ℕ) → IsCommit s k i → IsCommit s k j → i ≡ j
  pub barrier : (k i : ℕ) → IsCommit s k i → IsFence s.requests i
  pub behind : (k i : ℕ) → IsLog s (k + 1) i → 1 ≤ k → CommitBefore s k i
  pub before : (k i c : ℕ) → IsLog s k i → IsCommit s k c → (i ≡ c) ⊎ Fenced s.requests i c

-- ---- layout of the log

-- a block of the log begins as its note says, where transaction 1 has this sequence
abbrev pub HasHeader : ℕ → Note → Header → Type 0
HasHeader sequence (Descriptor k) h = (tags : List Tag) × (h ≡ Describes (sequence + (k - 1)) tags)
HasHeader sequence (Revoke k) h = (blocks : List ℕ) × (h ≡ Revokes (sequence + (k - 1)) blocks)
HasHeader sequence (Commit k) h = h ≡ Commits (sequence + (k - 1))
HasHeader sequence (Body k block) h = h ≡ Plain
HasHeader sequence other h = Unit {0}

-- The log blocks go to consecutive places in order of submission, round the ring. A place is written again
-- only behind a superblock that freed what was written there. Each block begins as its note says, and the
-- blocks of a submitted transaction spell it.
pub record LogLayout (s : Session) : Type 0 where
  pub place : (n : ℕ) (e : LogBlock) → slice_get (log_blocks s) n ≡ Some e → IsPutOf s.requests e.id (s.journal + places_on s.ring n s.head)
  pub again : (k l i j b : ℕ) → i < j → IsLog s k i → IsLog s l j → IsPutOf s.requests i b → IsPutOf s.requests j b
      → (x freed : ℕ) × IsSuperOf s x freed × (i < x) × (x < j) × (k ≤ freed)
  pub header : (i : ℕ) (n : Note) → HasNote s i n → HasHeader s.sequence n (s.format.header (body_at s i))
  pub spells : (k i : ℕ) → IsCommit s k i → Spells s.format (sequence_of s k) (bodies_of s (log_blocks_of k (log_blocks s))) (s.transactions k)
  pub head : IsPlace s.ring s.head

-- ---- superblocks and checkpoints

-- A Home request before place i brings block b the body x that it has after each transaction from `since`
-- to k. It stands behind the commit block of `since`, and before i with a barrier between.
pub record IsSentHome (s : Session) (b : ℕ) (x : List ℕ) (k i : ℕ) : Type 0 where
  pub home : ℕ
  pub note : HasNote s home (Home b)
  pub body : IsPutWith s.requests home x
  pub fenced : Fenced s.requests home i
  pub since : ℕ
  pub committed : CommitBefore s since home
  pub within : since ≤ k
  pub stays : (j : ℕ) → since ≤ j → j ≤ k → mark_in (transactions_from s.transactions 1 j) b ≡ Set x

-- Each superblock has a tail. It stands before the commit block of the tail, with a barrier between. One
-- that frees transactions is a barrier, stands behind the commit block of the last of them, and each block's
-- last body of them that no revoke of theirs cancels was sent home before.
pub record CheckpointOrder (s : Session) : Type 0 where
  pub tail : (i : ℕ) → HasNote s i Super → (freed : ℕ) × IsSuperOf s i freed
  pub first : (c : ℕ) → IsCommit s 1 c → (i : ℕ) × IsSuperOf s i 0
  pub before : (i freed c : ℕ) → IsSuperOf s i freed → IsCommit s (freed + 1) c → Fenced s.requests i c
  pub behind : (i freed : ℕ) → IsSuperOf s i freed → 1 ≤ freed → CommitBefore s freed i
  pub barrier : (i freed : ℕ) → IsSuperOf s i freed → 1 ≤ freed → IsFence s.requests i
  pub homes : (i freed b : ℕ) (x : List ℕ) → IsSuperOf s i freed → mark_in (transactions_from s.transactions 1 freed) b ≡ Set x → IsSentHome s b x freed i

-- ---- images of transactions

-- what a Home request carries: the body of its block after the transactions whose commit block stands before
pub record IsHomeOf (s : Session) (i b : ℕ) : Type 0 where
  pub k : ℕ
  pub committed : CommitBefore s k i
  pub newest : (c : ℕ) → IsCommit s (k + 1) c → i ≤ c
  pub body : List ℕ
  pub carried : IsPutWith s.requests i body
  pub mark : mark_in (transactions_from s.transactions 1 k) b ≡ Set body

-- Block b has in the image of k what it has in the base image, of whose metadata it is.
abbrev pub IsOlder : Session → ℕ → ℕ → Type 0
IsOlder s k b = In b s.reserved ⊎ (In b s.freeable × (mark_in (transactions_from s.transactions 1 k) b ≡ Keep))

-- Before place i stands the commit block of a transaction at whose end block b is given up.
abbrev pub IsFreedBefore : Session → ℕ → ℕ → Type 0
IsFreedBefore s b i = (k : ℕ) × CommitBefore s k i × (mark_in (transactions_from s.transactions 1 k) b ≡ Clear)

-- `program` is the walk that reads the tree of an image.
pub record Images {A : Type 0} (program : Reads A) (s : Session) : Type 0 where
  -- bodies lie on the volume, and no revoke is of the base image's metadata
  pub bodies : (k b : ℕ) (x : List ℕ) → IsSubmitted s k → mark_in (transactions_from s.transactions 1 k) b ≡ Set x → b < s.journal
  pub revokes : (k i b : ℕ) → IsCommit s k i → In b (s.transactions k).revokes → In b s.reserved → ⊥
  -- each block of metadata is the base image's or was logged
  pub logged : (k b : ℕ) → IsSubmitted s k → In b (blocks_read (image_of s k) program) → IsOlder s k b ⊎ ((x : List ℕ) × (mark_in (transactions_from s.transactions 1 k) b ≡ Set x))
  pub home : (i b : ℕ) → HasNote s i (Home b) → IsHomeOf s i b
  -- a page that goes to a block with a body, behind the commit block, goes behind the next commit block
  pub pages : (i birth index call z k : ℕ) (x : List ℕ) → HasNote s i (Page birth index call) → IsPutOf s.requests i z → mark_in (transactions_from s.transactions 1 k) z ≡ Set x → CommitBefore s k i → CommitBefore s (k + 1) i
  -- one that goes to metadata of the base image goes behind the commit block of a transaction that gave it up
  pub freed : (i birth index call z : ℕ) → HasNote s i (Page birth index call) → IsPutOf s.requests i z → In z s.freeable → IsFreedBefore s z i

-- ---- the base image

-- its log is empty, no block of it reads as the commit block of a transaction of the session, and its metadata lies
-- before the journal
pub record BaseImage (s : Session) : Type 0 where
  pub start : (s.format.tail (disk_of s.base s.journal)).start ≡ 0
  pub reserved : (b : ℕ) → In b s.reserved → b < s.journal
  pub freeable : (b : ℕ) → In b s.freeable → b < s.journal
  pub plain : (p seq : ℕ) → IsPlace s.ring p → s.sequence ≤ seq → s.format.header (disk_of s.base (s.journal + p)) ≢ Commits seq

-- all of them
pub record OrderRules {A : Type 0} (program : Reads A) (s : Session) : Type 0 where
  pub fits : FitsNotes s
  pub commits : CommitOrder s
  pub log : LogLayout s
  pub checkpoints : CheckpointOrder s
  pub images : Images program s
  pub base : BaseImage s
