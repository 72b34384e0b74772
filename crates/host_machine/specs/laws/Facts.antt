-- The facts of the host's state about the images of its transactions, each over the components that it speaks
-- of. `now` is the number of the last entry, r the running transaction, and N transactions are submitted.
use Rattle.std.specs.Prelude.{◌≡◌, ℕ, ◌+◌, ◌-◌, ◌<◌, ◌≤◌, ◌⊎◌, Bool, true, false, List, Option, Some, None}
use Rattle.blk_base.specs.Members.{In}
use Rattle.order_model.specs.OrderClosed.{IsOrdered}
use Rattle.order_model.specs.declared.note.Note.TheVariants.{Page}
use Rattle.log_model.specs.Marks.{Clear, Set, mark_in, transactions_from}
use Rattle.volume_ops.specs.Reads.{Reads, answer, blocks_read}
use Rattle.page_cache.specs.Pages.{page_at}
use Rattle.page_cache.specs.declared.cached_page.CachedPage.{CachedPage}
use Rattle.page_cache.specs.declared.cached_page.PageState.TheVariants.{Clean, Firm}
use Rattle.crash_laws.specs.History.{History, IsUnmapped, Calm, last_write}
use Rattle.crash_laws.specs.PageRules.{IsPageTo, place_at}
use Rattle.crash_laws.specs.Rules.{IsOlder}
use Rattle.crash_laws.specs.Session.{Session, HasNote, IsCommit, image_of}
use Rattle.host_machine.specs.Model.{FileBlock, Touched}

-- what is seen of a volume: its blocks, which of them are metadata, the blocks of pages, and the transaction
-- that a freed zone waits for
pub record View : Type 0 where
  pub bytes : ℕ → List ℕ
  pub metadata : ℕ → Bool
  pub zone : ℕ → ℕ → Option ℕ
  pub quarantine : ℕ → Option ℕ

-- ---- what a volume has by itself

-- It stands for the tree after entry `now`; each block is of one use; and the walk through it reads its
-- metadata alone and finds its pages.
pub record IsPlain {A : Type 0} (program : Reads A) (h : History A) (s : Session) (now : ℕ) (v : View) : Type 0 where
  pub mapped : (f i z : ℕ) → v.zone f i ≡ Some z → h.maps now f i ≡ true
  pub content : (f i z : ℕ) → v.zone f i ≡ Some z → v.bytes z ≡ h.content f i now
  pub there : (f i : ℕ) → h.maps now f i ≡ true → (z : ℕ) × (v.zone f i ≡ Some z)
  pub metadata_free : (b : ℕ) → v.metadata b ≡ true → v.quarantine b ≡ None
  pub page_free : (f i b : ℕ) → v.zone f i ≡ Some b → (v.metadata b ≡ false) × (v.quarantine b ≡ None)
  pub one_page : (f i g j b : ℕ) → v.zone f i ≡ Some b → v.zone g j ≡ Some b → (f ≡ g) × (i ≡ j)
  pub metadata_low : (b : ℕ) → v.metadata b ≡ true → b < s.journal
  pub page_low : (f i b : ℕ) → v.zone f i ≡ Some b → b < s.journal
  pub reserved : (b : ℕ) → In b s.reserved → v.metadata b ≡ true
  pub walk : (b : ℕ) → In b (blocks_read v.bytes program) → v.metadata b ≡ true
  pub places : (f i z : ℕ) → v.zone f i ≡ Some z → h.place (answer v.bytes program) now f i ≡ z

-- What a changing call did, as entry now + 1 in transaction r. Metadata that is new was touched, also where its
-- bytes came out as the old ones; metadata that went was revoked; what was not touched keeps its bytes. Freed
-- zones wait for r. The pages are those that the call wrote, the dropped ones those that it unmapped.
pub record IsChange {A : Type 0} (more : History A) (s : Session) (now r : ℕ) (old new : View) (t : Touched) : Type 0 where
  pub fresh : (b : ℕ) → new.metadata b ≡ true → (old.metadata b ≡ true) ⊎ In b t.blocks
  pub gone : (b : ℕ) → old.metadata b ≡ true → new.metadata b ≡ false → In b t.revoked
  pub revoked : (b : ℕ) → In b t.revoked → (new.metadata b ≡ false) × In b t.freed × (In b s.reserved → ⊥)
  pub same_bytes : (b : ℕ) → old.metadata b ≡ true → new.metadata b ≡ true → (In b t.blocks → ⊥) → new.bytes b ≡ old.bytes b
  pub blocks : (b : ℕ) → In b t.blocks → In b t.revoked ⊎ (new.metadata b ≡ true)
  pub freed : (z : ℕ) → In z t.freed → (old.quarantine z ≡ None) × (new.quarantine z ≡ Some r)
  pub not_freed : (z : ℕ) → (In z t.freed → ⊥) → new.quarantine z ≡ old.quarantine z
  pub written : (w : FileBlock) → In w t.pages → (more.writes (now + 1) w.birth w.index ≡ true) × (new.zone w.birth w.index ≡ Some w.block)
  pub all_written : (f i : ℕ) → more.writes (now + 1) f i ≡ true → (w : FileBlock) × In w t.pages × (w.birth ≡ f) × (w.index ≡ i)
  pub dropped : (d : FileBlock) → In d t.dropped → new.zone d.birth d.index ≡ None
  pub all_dropped : (f i z : ℕ) → old.zone f i ≡ Some z → new.zone f i ≡ None → In z t.freed × ((d : FileBlock) × In d t.dropped × (d.birth ≡ f) × (d.index ≡ i))
  pub same_zone : (f i z y : ℕ) → old.zone f i ≡ Some z → new.zone f i ≡ Some y → y ≡ z
  -- a file with a new block is among the changed nodes; for each file among them that has a block, the call
  -- touched metadata of the base image
  pub newly : (f i z : ℕ) → old.zone f i ≡ None → new.zone f i ≡ Some z → In f t.nodes
  pub nodes : (f i z : ℕ) → In f t.nodes → new.zone f i ≡ Some z → (b : ℕ) × In b t.blocks × In b s.reserved

-- ---- what the host keeps

-- All transactions below the running one are closed, and the last of these may be on its way.
pub record Numbers {A : Type 0} (h : History A) (s : Session) (now r N : ℕ) : Type 0 where
  pub closed : (N + 1 ≡ r) ⊎ (N + 2 ≡ r)
  pub committed : (k : ℕ) → 1 ≤ k → k ≤ N → (c : ℕ) × IsCommit s k c
  pub no_more : (k c : ℕ) → IsCommit s k c → k ≤ N
  pub cuts : (k : ℕ) → h.cut k ≤ now
  pub running : (k : ℕ) → r ≤ k → h.cut k ≡ now
  pub versions : (o f i v : ℕ) → HasNote s o (Page f i v) → v ≤ now

-- Each block of metadata is among the running bodies, or as in the image of the last closed transaction, where
-- it was logged or is the base image's.
pub record Present (s : Session) (r : ℕ) (v : View) (touched : List ℕ) : Type 0 where
  pub present : (b : ℕ) → v.metadata b ≡ true → In b touched ⊎ ((v.bytes b ≡ image_of s (r - 1) b) × (IsOlder s (r - 1) b ⊎ ((x : List ℕ) × (mark_in (transactions_from s.transactions 1 (r - 1)) b ≡ Set x))))

-- A block with a body in that image is metadata, or the running transaction revokes it. Running bodies lie on
-- metadata; running revokes wait for the running transaction, and are none of the base image's metadata.
pub record Bodies (s : Session) (r : ℕ) (v : View) (touched revoked : List ℕ) : Type 0 where
  pub on_metadata : (b : ℕ) (x : List ℕ) → mark_in (transactions_from s.transactions 1 (r - 1)) b ≡ Set x → (v.metadata b ≡ true) ⊎ In b revoked
  pub bodies_on : (b : ℕ) → In b touched → v.metadata b ≡ true
  pub waits : (b : ℕ) → In b revoked → v.quarantine b ≡ Some r
  pub own : (b : ℕ) → In b revoked → In b s.reserved → ⊥

-- The revokes of a transaction on its way wait for it.
pub record PlanRevokes (s : Session) (r N : ℕ) (v : View) : Type 0 where
  pub waits : (b : ℕ) → N + 2 ≡ r → In b (s.transactions (N + 1)).revokes → v.quarantine b ≡ Some (N + 1)

-- A page that no entry unmapped since a closed transaction is where the image of that transaction has it.
pub record KeepsPlaces {A : Type 0} (program : Reads A) (h : History A) (s : Session) (now r : ℕ) (v : View) : Type 0 where
  pub kept : (k f i z : ℕ) → k < r → h.maps (h.cut k) f i ≡ true → Calm h f i (h.cut k) now → v.zone f i ≡ Some z → z ≡ place_at program h s k f i

-- A cached page has the block of the volume, the number of the call that wrote it last, and the bytes that this
-- call gave it.
pub record IsCached {A : Type 0} (h : History A) (now : ℕ) (v : View) (f i : ℕ) (p : CachedPage) : Type 0 where
  pub birth : p.birth ≡ f
  pub index : p.index ≡ i
  pub zone : v.zone f i ≡ Some p.block
  pub body : p.body ≡ h.content f i p.version
  pub version : p.version ≡ last_write h f i now
  pub written : 1 ≤ p.version

pub record PagesMapped {A : Type 0} (h : History A) (now : ℕ) (v : View) (pages : List CachedPage) : Type 0 where
  pub cached : (f i : ℕ) (p : CachedPage) → page_at pages f i ≡ Some p → IsCached h now v f i p
  pub all : (f i z : ℕ) → v.zone f i ≡ Some z → 1 ≤ last_write h f i now → (p : CachedPage) × (page_at pages f i ≡ Some p)

-- No page is Clean, since none was there when the session was opened. A Firm page was sent order-preserving as
-- it is, and no request has a later version.
pub record PagesSent (s : Session) (pages : List CachedPage) : Type 0 where
  pub not_clean : (f i : ℕ) (p : CachedPage) → page_at pages f i ≡ Some p → p.state ≡ Clean → ⊥
  pub firm : (f i : ℕ) (p : CachedPage) → page_at pages f i ≡ Some p → p.state ≡ Firm
      → (o : ℕ) × IsPageTo s o f i p.version p.block × IsOrdered s.requests o
  pub older : (o f i w y : ℕ) (p : CachedPage) → IsPageTo s o f i w y → page_at pages f i ≡ Some p → w ≤ p.version

-- A page that was sent to block z is live: nothing has unmapped it since, and it is there. Or it is dead: an
-- entry of transaction k has unmapped it; the request stands before that transaction's commit block, or the
-- block waits for it.
pub record IsLive {A : Type 0} (h : History A) (now : ℕ) (v : View) (f i w z : ℕ) : Type 0 where
  pub calm : Calm h f i w now
  pub there : v.zone f i ≡ Some z

pub record IsDead {A : Type 0} (h : History A) (s : Session) (now N : ℕ) (v : View) (o f i w z : ℕ) : Type 0 where
  pub k : ℕ
  pub entry : ℕ
  pub later : w < entry
  pub within : entry ≤ now
  pub unmapped : IsUnmapped h f i entry
  pub of_k : entry ≤ h.cut k
  pub given_up : ((c : ℕ) × IsCommit s k c × (o < c)) ⊎ ((N < k) × (v.quarantine z ≡ Some k))

pub record ZoneHistory {A : Type 0} (h : History A) (s : Session) (now N : ℕ) (v : View) : Type 0 where
  pub live_or_dead : (o f i w z : ℕ) → IsPageTo s o f i w z → IsLive h now v f i w z ⊎ IsDead h s now N v o f i w z

-- The same of a block of the tree that was opened, at block z.
pub record IsOpenedDead {A : Type 0} (h : History A) (s : Session) (now N : ℕ) (v : View) (f i z : ℕ) : Type 0 where
  pub k : ℕ
  pub entry : ℕ
  pub later : 1 ≤ entry
  pub within : entry ≤ now
  pub unmapped : IsUnmapped h f i entry
  pub of_k : entry ≤ h.cut k
  pub given_up : ((c : ℕ) × IsCommit s k c) ⊎ ((N < k) × (v.quarantine z ≡ Some k))

-- a closed transaction gave block b up, and it is submitted or the block waits for it
pub record IsFreed (s : Session) (r N : ℕ) (v : View) (b : ℕ) : Type 0 where
  pub k : ℕ
  pub numbered : 1 ≤ k
  pub closed : k < r
  pub clear : mark_in (transactions_from s.transactions 1 k) b ≡ Clear
  pub given_up : (k ≤ N) ⊎ ((N < k) × (v.quarantine b ≡ Some k))

-- Blocks of the tree that was opened are live or dead. What calls may give up of the metadata of the base image is metadata,
-- or the running transaction revokes it, or one before gave it up.
pub record OpenedZones {A : Type 0} (program : Reads A) (h : History A) (s : Session) (now r N : ℕ) (v : View) (revoked : List ℕ) : Type 0 where
  pub pages : (f i : ℕ) → h.maps 0 f i ≡ true → IsLive h now v f i 0 (place_at program h s 0 f i) ⊎ IsOpenedDead h s now N v f i (place_at program h s 0 f i)
  pub freeable : (b : ℕ) → In b s.freeable → (v.metadata b ≡ true) ⊎ In b revoked ⊎ IsFreed s r N v b

-- A node that the running transaction changed is listed; where a file with a block is, the transaction logs a block
-- of the base image's metadata, so it is not empty.
pub record Altered {A : Type 0} (h : History A) (s : Session) (r : ℕ) (v : View) (touched changed : List ℕ) : Type 0 where
  pub listed : (f : ℕ) → h.changes r f ≡ true → In f changed
  pub not_empty : (f i z : ℕ) → In f changed → v.zone f i ≡ Some z → (b : ℕ) × In b touched × In b s.reserved

-- Transaction k is closed, and its commit block is not submitted: what that will owe. `from` is the place of the
-- plan's first request.
pub record OnItsWay {A : Type 0} (program : Reads A) (h : History A) (s : Session) (k from : ℕ) : Type 0 where
  pub place : (o f i w z : ℕ) → IsPageTo s o f i w z → h.maps (h.cut k) f i ≡ true → Calm h f i w (h.cut k) → Calm h f i (h.cut k) w → z ≡ place_at program h s k f i
  pub logged : (o f i w z : ℕ) (x : List ℕ) → IsPageTo s o f i w z → mark_in (transactions_from s.transactions 1 k) z ≡ Set x → (c : ℕ) × IsCommit s (k - 1) c × (o < c) × (w ≤ h.cut (k - 1))
  pub files : (f i : ℕ) (x : List ℕ) → h.maps (h.cut k) f i ≡ true → mark_in (transactions_from s.transactions 1 k) (place_at program h s k f i) ≡ Set x → ⊥
  pub stays : (f i : ℕ) → h.maps 0 f i ≡ true → Calm h f i 0 (h.cut k) → place_at program h s 0 f i ≡ place_at program h s k f i
  pub walked : (b : ℕ) → In b (blocks_read (image_of s k) program) → IsOlder s k b ⊎ ((x : List ℕ) × (mark_in (transactions_from s.transactions 1 k) b ≡ Set x))
  pub low : (b : ℕ) (x : List ℕ) → mark_in (transactions_from s.transactions 1 k) b ≡ Set x → b < s.journal
  pub own : (b : ℕ) → In b (s.transactions k).revokes → In b s.reserved → ⊥
  pub sent : (f i : ℕ) → h.changes k f ≡ true → h.maps (h.cut k) f i ≡ true → 1 ≤ last_write h f i (h.cut k)
      → (o : ℕ) × HasNote s o (Page f i (last_write h f i (h.cut k))) × IsOrdered s.requests o × (o < from)
