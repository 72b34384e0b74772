-- What a host is told of a call that changed its volume, and what the volume keeps of its zones.
use Rattle.std.specs.Prelude.{◌≡◌, ℕ, ◌+◌, ◌-◌, ◌⊎◌, Bool, true, false, List, Some, None}
use Rattle.blk_base.specs.Members.{In}
use Rattle.log_model.specs.Marks.{Keep, Set, bodies_mark, mark_in, transactions_from}
use Rattle.crash_laws.specs.History.{History}
use Rattle.crash_laws.specs.laws.HostFacts.{Host}
use Rattle.crash_laws.specs.Rules.{IsOlder}
use Rattle.crash_laws.specs.Session.{Session, image_of}

-- What a call tells: the blocks that it touched, the zones that it freed, and those of metadata among them. It
-- is entry `now + 1`.
pub record Told : Type 0 where
  pub touched : ℕ → Bool
  pub freed : ℕ → Bool
  pub revoked : ℕ → Bool

-- a zone of neither a page nor the metadata, which does not wait
pub record IsOpen (host : Host) (b : ℕ) : Type 0 where
  pub metadata : host.metadata b ≡ false
  pub quarantine : host.quarantine b ≡ None

pub record IsChange {A : Type 0} (h : History A) (s : Session) (old new : Host) (told : Told) : Type 0 where
  pub now : new.now ≡ old.now + 1
  pub running : new.running ≡ old.running
  -- metadata: fresh blocks are touched and were open, blocks that are no more are revoked and freed
  pub fresh : (b : ℕ) → new.metadata b ≡ true → (old.metadata b ≡ true) ⊎ ((told.touched b ≡ true) × IsOpen old b)
  pub gone : (b : ℕ) → old.metadata b ≡ true → new.metadata b ≡ false → told.revoked b ≡ true
  pub revoked : (b : ℕ) → told.revoked b ≡ true → (new.metadata b ≡ false) × (told.freed b ≡ true) × (In b s.reserved → ⊥)
  pub kept : (b : ℕ) → old.metadata b ≡ true → new.metadata b ≡ true → told.touched b ≡ false → new.volume b ≡ old.volume b
  pub touched : (b : ℕ) → told.touched b ≡ true → told.revoked b ≡ false → new.metadata b ≡ true
  -- freed zones did not wait, and wait for the running transaction; the others as before
  pub freed : (b : ℕ) → told.freed b ≡ true → (old.quarantine b ≡ None) × (new.quarantine b ≡ Some old.running)
  pub waiting : (b : ℕ) → told.freed b ≡ false → new.quarantine b ≡ old.quarantine b
  -- pages: what stays mapped keeps its zone, what is unmapped is freed
  pub stays : (f i z : ℕ) → old.zone f i ≡ Some z → h.maps new.now f i ≡ true → new.zone f i ≡ Some z
  pub dropped : (f i z : ℕ) → old.zone f i ≡ Some z → h.maps new.now f i ≡ false → told.freed z ≡ true
  -- the running bodies and revokes
  pub logged : (b : ℕ) → told.touched b ≡ true → told.revoked b ≡ false → bodies_mark new.bodies b ≡ Set (new.volume b)
  pub unlogged : (b : ℕ) → told.revoked b ≡ true → bodies_mark new.bodies b ≡ Keep
  pub as_before : (b : ℕ) → told.touched b ≡ false → told.revoked b ≡ false → bodies_mark new.bodies b ≡ bodies_mark old.bodies b
  pub new_revokes : (b : ℕ) → In b new.revokes → In b old.revokes ⊎ (told.revoked b ≡ true)
  pub old_revokes : (b : ℕ) → In b old.revokes → In b new.revokes
  pub its_revokes : (b : ℕ) → told.revoked b ≡ true → In b new.revokes

-- what the volume keeps of its zones by itself
pub record HasZones {A : Type 0} (h : History A) (host : Host) : Type 0 where
  pub metadata_free : (b : ℕ) → host.metadata b ≡ true → host.quarantine b ≡ None
  pub page_free : (f i b : ℕ) → host.zone f i ≡ Some b → (host.metadata b ≡ false) × (host.quarantine b ≡ None)
  pub one_page : (f i g j b : ℕ) → host.zone f i ≡ Some b → host.zone g j ≡ Some b → (f ≡ g) × (i ≡ j)
  pub mapped_zone : (f i : ℕ) → h.maps host.now f i ≡ true → (z : ℕ) × (host.zone f i ≡ Some z)
  pub zone_mapped : (f i z : ℕ) → host.zone f i ≡ Some z → h.maps host.now f i ≡ true

-- each block of metadata has its body among the running ones, or is as in the last image
abbrev pub IsPresent : Session → Host → ℕ → Type 0
IsPresent s host b = (bodies_mark host.bodies b ≡ Set (host.volume b))
    ⊎ ((bodies_mark host.bodies b ≡ Keep) × (host.volume b ≡ image_of s (host.running - 1) b) × (IsOlder s (host.running - 1) b ⊎ ((x : List ℕ) × (mark_in (transactions_from s.transactions 1 (host.running - 1)) b ≡ Set x))))
