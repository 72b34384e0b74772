-- What a host has when it plans a transaction, and until the commit block stands.
use Rattle.std.specs.Prelude.{◌≡◌, ℕ, ◌-◌, ◌<◌, ◌≤◌, ◌⊎◌, true, List, Some}
use Rattle.blk_base.specs.Members.{In}
use Rattle.volume_ops.specs.Reads.{Reads, answer, blocks_read}
use Rattle.log_model.specs.Marks.{Keep, Set, bodies_mark, mark_in, transactions_from}
use Rattle.crash_laws.specs.History.{History, Calm}
use Rattle.crash_laws.specs.laws.HostFacts.{Host}
use Rattle.crash_laws.specs.PageRules.{IsPageTo, place_at}
use Rattle.crash_laws.specs.Rules.{IsOlder}
use Rattle.crash_laws.specs.Session.{Session, IsCommit, image_of}

-- what the plan of the running transaction needs beside
pub record PlanFacts {A : Type 0} (program : Reads A) (h : History A) (s : Session) (host : Host) : Type 0 where
  -- each block of metadata has its body among the running ones, or is as in the last image, where it was logged
  -- or is the base image's
  pub present : (b : ℕ) → host.metadata b ≡ true → (bodies_mark host.bodies b ≡ Set (host.volume b))
      ⊎ ((bodies_mark host.bodies b ≡ Keep) × (host.volume b ≡ image_of s (host.running - 1) b) × (IsOlder s (host.running - 1) b ⊎ ((x : List ℕ) × (mark_in (transactions_from s.transactions 1 (host.running - 1)) b ≡ Set x))))
  pub bodies_there : (b : ℕ) (x : List ℕ) → bodies_mark host.bodies b ≡ Set x → host.metadata b ≡ true
  pub low : (b : ℕ) → host.metadata b ≡ true → b < s.journal
  pub base_stays : (b : ℕ) → In b host.revokes → In b s.reserved → ⊥
  -- the walk through the volume reads metadata alone, and finds the pages where they are
  pub walk : (b : ℕ) → In b (blocks_read host.volume program) → host.metadata b ≡ true
  pub places : (f i z : ℕ) → host.zone f i ≡ Some z → h.place (answer host.volume program) host.now f i ≡ z
  -- the plan is that of the running transaction, and its cut is noted
  pub planned : s.transactions host.running ≡ record { bodies = host.bodies; revokes = host.revokes }
  pub cut : h.cut host.running ≡ host.now

-- what holds of transaction k, which is planned and not yet committed
pub record IsCommitting {A : Type 0} (program : Reads A) (h : History A) (s : Session) (k : ℕ) : Type 0 where
  pub place : (o f i v z : ℕ) → IsPageTo s o f i v z → h.maps (h.cut k) f i ≡ true → Calm h f i v (h.cut k) → Calm h f i (h.cut k) v → z ≡ place_at program h s k f i
  pub logged : (o f i v z : ℕ) (x : List ℕ) → IsPageTo s o f i v z → mark_in (transactions_from s.transactions 1 k) z ≡ Set x → (c : ℕ) × IsCommit s (k - 1) c × (o < c) × (v ≤ h.cut (k - 1))
  pub files : (f i : ℕ) (x : List ℕ) → h.maps (h.cut k) f i ≡ true → mark_in (transactions_from s.transactions 1 k) (place_at program h s k f i) ≡ Set x → ⊥
  pub stays : (f i : ℕ) → h.maps 0 f i ≡ true → Calm h f i 0 (h.cut k) → place_at program h s 0 f i ≡ place_at program h s k f i
