-- What a request owes to the order rules, by what it carries: a page, a flush, a home write, a superblock, a log block,
-- a commit block.
use Rattle.std.specs.Prelude.{◌≡◌, ℕ, ◌+◌, ◌-◌, ◌<◌, ◌≤◌, ◌⊎◌, ◌||◌, List, [], Some, None, length, IsTrue}
use Rattle.std.specs.Option.{unwrap_or}
use Rattle.blk_base.specs.Members.{In}
use Rattle.order_model.specs.declared.note.Note.TheVariants.{Page, Super, Commit, Home, Flush}
use Rattle.order_model.specs.OrderClosed.{IsPutOf, is_flush, kind_block, kind_body}
use Rattle.volume_ops.specs.Reads.{Reads, blocks_read}
use Rattle.log_model.specs.Log.{Spells}
use Rattle.log_model.specs.Marks.{Set, mark_in, transactions_from}
use Rattle.log_model.specs.Ring.{IsPlace, places_on}
use Rattle.crash_laws.specs.laws.Clauses.{SuperClause, IsFreedNow}
use Rattle.crash_laws.specs.Ordering.{IsClosedOff}
use Rattle.crash_laws.specs.Rules.{HasHeader, IsOlder}
use Rattle.crash_laws.specs.Session.{log_transaction, IsLog, log_blocks, log_blocks_of, bodies_of, sequence_of, IsSuperOf, image_of}
use Rattle.crash_laws.specs.laws.Submitting.{Submitting, after, IsCommitted}

-- a page of a file goes to a block of the volume that is not the base image's metadata, and that has no logged body
-- which a recovery could still put there
pub record IsPageRequest (p : Submitting) (f i v : ℕ) : Type 0 where
  pub note : p.note ≡ Page f i v
  pub zone : ℕ
  pub block : kind_block p.request.kind ≡ Some zone
  pub low : zone < p.session.journal
  pub free : In zone p.session.reserved → ⊥
  pub unlogged : (k : ℕ) (x : List ℕ) → mark_in (transactions_from p.session.transactions 1 k) zone ≡ Set x → IsCommitted p.session k → IsCommitted p.session (k + 1)
  pub freed : In zone p.session.freeable → IsFreedNow p.session zone

-- a flush writes nothing
pub record IsFlushRequest (p : Submitting) : Type 0 where
  pub note : p.note ≡ Flush
  pub block : kind_block p.request.kind ≡ None

-- a home write carries the body that its block has after the last committed transaction
pub record IsHomeRequest (p : Submitting) (b : ℕ) : Type 0 where
  pub note : p.note ≡ Home b
  pub block : kind_block p.request.kind ≡ Some b
  pub ordered : IsTrue p.request.ordered
  pub newest : ℕ
  pub committed : IsCommitted p.session newest
  pub no_more : IsCommitted p.session (newest + 1) → ⊥
  pub body : List ℕ
  pub carried : kind_body p.request.kind ≡ Some body
  pub mark : mark_in (transactions_from p.session.transactions 1 newest) b ≡ Set body

-- a superblock frees committed transactions whose bodies are home
pub record IsSuperRequest (p : Submitting) : Type 0 where
  pub note : p.note ≡ Super
  pub block : kind_block p.request.kind ≡ Some p.session.journal
  pub ordered : IsTrue p.request.ordered
  pub clause : SuperClause p.session p.request

-- A log block of transaction k goes to the next place of the log, where everything that stood there is freed. The
-- transaction before is committed, and k is not.
pub record IsLogRequest (p : Submitting) (k : ℕ) : Type 0 where
  pub note : log_transaction p.note ≡ Some k
  pub ordered : IsTrue p.request.ordered
  pub numbered : 1 ≤ k
  pub unfinished : IsCommitted p.session k → ⊥
  pub behind : 2 ≤ k → IsCommitted p.session (k - 1)
  pub head : IsPlace p.session.ring p.session.head
  pub block : kind_block p.request.kind ≡ Some (p.session.journal + places_on p.session.ring (length (log_blocks p.session)) p.session.head)
  pub again : (l i b : ℕ) → kind_block p.request.kind ≡ Some b → IsLog p.session l i → IsPutOf p.session.requests i b
      → (x freed : ℕ) × IsSuperOf p.session x freed × (i < x) × (l ≤ freed)
  pub header : HasHeader p.session.sequence p.note (p.session.format.header (unwrap_or (kind_body p.request.kind) []))

-- A commit block is a barrier behind all its log blocks, which spell its transaction; a superblock of its tail is
-- there, and closed off. Its bodies lie on the volume, it revokes no metadata of the base image, and what the walk
-- reads of its image is the base image's or was logged.
pub record IsCommitRequest {A : Type 0} (program : Reads A) (p : Submitting) (k : ℕ) : Type 0 where
  pub note : p.note ≡ Commit k
  pub log : IsLogRequest p k
  pub barrier : IsTrue (p.request.barrier || is_flush p.request.kind)
  pub closed : (i : ℕ) → IsLog p.session k i → IsClosedOff p.session.requests i
  pub spells : Spells p.session.format (sequence_of p.session k) (bodies_of (after p) (log_blocks_of k (log_blocks (after p)))) (p.transactions k)
  pub first : k ≡ 1 → (i : ℕ) × IsSuperOf p.session i 0
  pub tail : (i freed : ℕ) → freed + 1 ≡ k → IsSuperOf p.session i freed → IsClosedOff p.session.requests i
  pub bodies : (b : ℕ) (x : List ℕ) → mark_in (transactions_from p.transactions 1 k) b ≡ Set x → b < p.session.journal
  pub revokes : (b : ℕ) → In b (p.transactions k).revokes → In b p.session.reserved → ⊥
  pub logged : (b : ℕ) → In b (blocks_read (image_of (after p) k) program) → IsOlder (after p) k b ⊎ ((x : List ℕ) × (mark_in (transactions_from p.transactions 1 k) b ≡ Set x))

-- a descriptor, a revoke block or a body: a log block that is no commit block
abbrev pub IsPartRequest : Submitting → ℕ → Type 0
IsPartRequest p k = IsLogRequest p k × ((l : ℕ) → p.note ≡ Commit l → ⊥)
