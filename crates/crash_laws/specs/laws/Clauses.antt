-- What a request owes when it is submitted, over the list before it.
use Rattle.std.specs.Prelude.{◌≡◌, ℕ, ◌+◌, ◌≤◌, ◌⊎◌, [], Some, IsTrue, ◌||◌, ◌<◌, false, List, length, None}
use Rattle.blk_base.specs.Members.{In}
use Rattle.order_model.specs.declared.request.Request.{Request}
use Rattle.order_model.specs.declared.note.Note.{Note}
use Rattle.order_model.specs.declared.note.Note.TheVariants.{Commit, Page, Super, Home, Flush, Raw}
use Rattle.order_model.specs.OrderClosed.{is_flush, IsPutOf, IsPutWith, kind_block, kind_body}
use Rattle.std.specs.Option.{unwrap_or}
use Rattle.volume_ops.specs.Reads.{Reads, blocks_read}
use Rattle.log_model.specs.Log.{Spells}
use Rattle.log_model.specs.Marks.{Clear, Set, mark_in, transactions_from}
use Rattle.log_model.specs.Ring.{places_on, IsPlace}
use Rattle.crash_laws.specs.Ordering.{IsClosedOff}
use Rattle.crash_laws.specs.Rules.{HasHeader, IsOlder, is_page_or_flush}
use Rattle.crash_laws.specs.Session.{Session, log_transaction, IsLog, HasNote, CommitBefore, log_blocks, log_blocks_of, bodies_of, sequence_of, first_place, IsSuperOf, image_of}
use Rattle.crash_laws.specs.laws.Submitting.{Submitting, after, IsCommitted}

pub record FitsClause (s : Session) (q : Request) (n : Note) : Type 0 where
  pub home : (b : ℕ) → n ≡ Home b → kind_block q.kind ≡ Some b
  pub super : n ≡ Super → kind_block q.kind ≡ Some s.journal
  pub log : (k : ℕ) → log_transaction n ≡ Some k → (p : ℕ) × IsPlace s.ring p × (kind_block q.kind ≡ Some (s.journal + p))
  pub page : (f i v : ℕ) → n ≡ Page f i v → (z : ℕ) × (kind_block q.kind ≡ Some z) × (z < s.journal) × (In z s.reserved → ⊥)
  pub flush : n ≡ Flush → kind_block q.kind ≡ None
  pub raw : n ≡ Raw → ⊥
  pub ordered : is_page_or_flush n ≡ false → IsTrue q.ordered

-- A log block of k: the commit block of the transaction before is there, and its own is not. A commit block
-- is a barrier, and each log block of its transaction is closed off.
pub record CommitClause (s : Session) (q : Request) (n : Note) : Type 0 where
  pub numbered : (k : ℕ) → log_transaction n ≡ Some k → 1 ≤ k
  pub unfinished : (k : ℕ) → log_transaction n ≡ Some k → IsCommitted s k → ⊥
  pub behind : (k : ℕ) → log_transaction n ≡ Some (k + 1) → 1 ≤ k → IsCommitted s k
  pub barrier : (k : ℕ) → n ≡ Commit k → IsTrue (q.barrier || is_flush q.kind)
  pub closed : (k i : ℕ) → n ≡ Commit k → IsLog s k i → IsClosedOff s.requests i

pub record LogClause (p : Submitting) : Type 0 where
  -- a log block goes to the next place, and what was there is freed
  pub place : (k : ℕ) → log_transaction p.note ≡ Some k → kind_block p.request.kind ≡ Some (p.session.journal + places_on p.session.ring (length (log_blocks p.session)) p.session.head)
  pub again : (k l i b : ℕ) → log_transaction p.note ≡ Some l → kind_block p.request.kind ≡ Some b → IsLog p.session k i → IsPutOf p.session.requests i b
      → (x freed : ℕ) × IsSuperOf p.session x freed × (i < x) × (k ≤ freed)
  pub header : HasHeader p.session.sequence p.note (p.session.format.header (unwrap_or (kind_body p.request.kind) []))
  pub spells : (k : ℕ) → p.note ≡ Commit k → Spells p.session.format (sequence_of p.session k) (bodies_of (after p) (log_blocks_of k (log_blocks (after p)))) (p.transactions k)

-- a Home request in the list that serves a superblock behind it
pub record IsHomeSent (s : Session) (b : ℕ) (x : List ℕ) (k : ℕ) : Type 0 where
  pub home : ℕ
  pub note : HasNote s home (Home b)
  pub body : IsPutWith s.requests home x
  pub closed : IsClosedOff s.requests home
  pub since : ℕ
  pub committed : CommitBefore s since home
  pub within : since ≤ k
  pub stays : (j : ℕ) → since ≤ j → j ≤ k → mark_in (transactions_from s.transactions 1 j) b ≡ Set x

-- A superblock frees transactions that are all committed and the last ones that are, and is a barrier where
-- there are any; its fields say so.
pub record SuperClause (s : Session) (q : Request) : Type 0 where
  pub freed : ℕ
  pub fields : s.format.tail (unwrap_or (kind_body q.kind) []) ≡ record { sequence = s.sequence + freed; start = first_place s (freed + 1) }
  pub last : IsCommitted s (freed + 1) → ⊥
  pub committed : 1 ≤ freed → IsCommitted s freed
  pub barrier : 1 ≤ freed → IsTrue (q.barrier || is_flush q.kind)
  pub homes : (b : ℕ) (x : List ℕ) → mark_in (transactions_from s.transactions 1 freed) b ≡ Set x → IsHomeSent s b x freed

pub record CheckpointClause (s : Session) (q : Request) (n : Note) : Type 0 where
  pub super : n ≡ Super → SuperClause s q
  pub first : n ≡ Commit 1 → (i : ℕ) × IsSuperOf s i 0
  pub before : (i freed : ℕ) → n ≡ Commit (freed + 1) → IsSuperOf s i freed → IsClosedOff s.requests i

-- a transaction that gave the block up is committed
abbrev pub IsFreedNow : Session → ℕ → Type 0
IsFreedNow s b = (k : ℕ) × IsCommitted s k × (mark_in (transactions_from s.transactions 1 k) b ≡ Clear)

-- what a commit block, a home and a page owe
pub record ImageClause {A : Type 0} (program : Reads A) (p : Submitting) : Type 0 where
  pub bodies : (k b : ℕ) (x : List ℕ) → p.note ≡ Commit k → mark_in (transactions_from p.transactions 1 k) b ≡ Set x → b < p.session.journal
  pub revokes : (k b : ℕ) → p.note ≡ Commit k → In b (p.transactions k).revokes → In b p.session.reserved → ⊥
  pub logged : (k b : ℕ) → p.note ≡ Commit k → In b (blocks_read (image_of (after p) k) program) → IsOlder (after p) k b ⊎ ((x : List ℕ) × (mark_in (transactions_from p.transactions 1 k) b ≡ Set x))
  pub home : (b : ℕ) → p.note ≡ Home b → (k : ℕ) × IsCommitted p.session k × (IsCommitted p.session (k + 1) → ⊥) × (x : List ℕ) × (kind_body p.request.kind ≡ Some x) × (mark_in (transactions_from p.session.transactions 1 k) b ≡ Set x)
  pub page : (f i v z k : ℕ) (x : List ℕ) → p.note ≡ Page f i v → kind_block p.request.kind ≡ Some z → mark_in (transactions_from p.session.transactions 1 k) z ≡ Set x → IsCommitted p.session k → IsCommitted p.session (k + 1)
  pub freed : (f i v z : ℕ) → p.note ≡ Page f i v → kind_block p.request.kind ≡ Some z → In z p.session.freeable → IsFreedNow p.session z

-- what the new request owes
pub record OrderClause {A : Type 0} (program : Reads A) (p : Submitting) : Type 0 where
  pub fits : FitsClause p.session p.request p.note
  pub commits : CommitClause p.session p.request p.note
  pub log : LogClause p
  pub checkpoints : CheckpointClause p.session p.request p.note
  pub images : ImageClause program p
