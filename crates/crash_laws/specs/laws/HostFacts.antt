-- Facts of a host by which its pages and its commit blocks keep the rules.
use Rattle.std.specs.Prelude.{◌≡◌, ℕ, ◌+◌, ◌-◌, ◌<◌, ◌≤◌, ◌⊎◌, Bool, true, false, List, Option, Some, None}
use Rattle.blk_base.specs.Members.{In}
use Rattle.volume_ops.specs.Reads.{Reads}
use Rattle.log_model.specs.Marks.{Logged, Set, mark_in, transactions_from}
use Rattle.crash_laws.specs.History.{History, IsUnmapped, Calm, last_write}
use Rattle.crash_laws.specs.PageRules.{IsPageTo, place_at}
use Rattle.crash_laws.specs.Session.{Session, IsCommit}

-- what the facts read of a host
pub record Host : Type 0 where
  -- the number of the last entry, and of the running transaction
  pub now : ℕ
  pub running : ℕ
  -- the volume's blocks as they are, and which of them are its metadata
  pub volume : ℕ → List ℕ
  pub metadata : ℕ → Bool
  -- the block of a page, where it is mapped
  pub zone : ℕ → ℕ → Option ℕ
  -- the transaction that a freed zone waits for
  pub quarantine : ℕ → Option ℕ
  -- the bodies and revokes of the running transaction
  pub bodies : List Logged
  pub revokes : List ℕ

-- A page that was sent to block z is live: nothing has unmapped it since, and it is there.
pub record IsLive {A : Type 0} (h : History A) (host : Host) (f i v z : ℕ) : Type 0 where
  pub calm : Calm h f i v host.now
  pub there : host.zone f i ≡ Some z

-- Or it is dead: an entry of transaction k has unmapped it. The request stands before that transaction's
-- commit block, or the block waits for it.
pub record IsDead {A : Type 0} (h : History A) (s : Session) (host : Host) (N o f i v z : ℕ) : Type 0 where
  pub k : ℕ
  pub entry : ℕ
  pub later : v < entry
  pub in_time : entry ≤ host.now
  pub unmapped : IsUnmapped h f i entry
  pub closed : k < host.running → entry ≤ h.cut k
  pub given_up : ((c : ℕ) × IsCommit s k c × (o < c) × (entry ≤ h.cut k)) ⊎ ((N < k) × (host.quarantine z ≡ Some k))

-- The same of a block that the tree which was opened has, at block z.
pub record IsOpenedDead {A : Type 0} (h : History A) (s : Session) (host : Host) (N f i z : ℕ) : Type 0 where
  pub k : ℕ
  pub entry : ℕ
  pub later : 1 ≤ entry
  pub in_time : entry ≤ host.now
  pub unmapped : IsUnmapped h f i entry
  pub closed : k < host.running → entry ≤ h.cut k
  pub given_up : ((c : ℕ) × IsCommit s k c × (entry ≤ h.cut k)) ⊎ ((N < k) × (host.quarantine z ≡ Some k))

-- N transactions are submitted. All below the running one are closed, and the last of these may be on its way.
pub record HostFacts {A : Type 0} (program : Reads A) (h : History A) (s : Session) (host : Host) (N : ℕ) : Type 0 where
  pub closed : (N + 1 ≡ host.running) ⊎ (N + 2 ≡ host.running)
  pub committed : (k : ℕ) → 1 ≤ k → k ≤ N → (c : ℕ) × IsCommit s k c
  pub no_more : (k c : ℕ) → IsCommit s k c → k ≤ N
  -- zones: metadata, or of one page, or waiting
  pub metadata_free : (b : ℕ) → host.metadata b ≡ true → host.quarantine b ≡ None
  pub page_free : (f i b : ℕ) → host.zone f i ≡ Some b → (host.metadata b ≡ false) × (host.quarantine b ≡ None)
  pub one_page : (f i g j b : ℕ) → host.zone f i ≡ Some b → host.zone g j ≡ Some b → (f ≡ g) × (i ≡ j)
  -- a block with a body in the last closed transaction's image is metadata, or the running one revokes it
  pub bodies_on_metadata : (b : ℕ) (x : List ℕ) → mark_in (transactions_from s.transactions 1 (host.running - 1)) b ≡ Set x → (host.metadata b ≡ true) ⊎ In b host.revokes
  -- revoked zones wait for the transaction that revokes them
  pub revokes_wait : (b : ℕ) → In b host.revokes → host.quarantine b ≡ Some host.running
  pub plan_revokes_wait : (b : ℕ) → N + 2 ≡ host.running → In b (s.transactions (N + 1)).revokes → host.quarantine b ≡ Some (N + 1)
  -- pages: mapped blocks, and what was sent of them
  pub mapped_zone : (f i : ℕ) → h.maps host.now f i ≡ true → (z : ℕ) × (host.zone f i ≡ Some z)
  pub zone_mapped : (f i z : ℕ) → host.zone f i ≡ Some z → h.maps host.now f i ≡ true
  pub sent_before : (o f i v y : ℕ) → IsPageTo s o f i v y → v ≤ host.now
  pub sent_version : (o f i v z y : ℕ) → IsPageTo s o f i v y → host.zone f i ≡ Some z → v ≤ last_write h f i host.now
  pub keeps_zone : (k f i z : ℕ) → k < host.running → h.maps (h.cut k) f i ≡ true → Calm h f i (h.cut k) host.now → host.zone f i ≡ Some z → z ≡ place_at program h s k f i
  pub cuts_now : (k : ℕ) → k < host.running → h.cut k ≤ host.now
  -- the history of zones
  pub live_or_dead : (o f i v z : ℕ) → IsPageTo s o f i v z → IsLive h host f i v z ⊎ IsDead h s host N o f i v z
  pub opened_live_or_dead : (f i : ℕ) → h.maps 0 f i ≡ true → IsLive h host f i 0 (place_at program h s 0 f i) ⊎ IsOpenedDead h s host N f i (place_at program h s 0 f i)
