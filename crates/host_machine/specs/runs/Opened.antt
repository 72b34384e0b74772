-- A host that is opened, over a volume and an empty log.
use Rattle.std.specs.Prelude.{◌≡◌, ℕ, ◌≤◌, ◌⊎◌, true, false, List, [], Some}
use Rattle.blk_base.specs.Members.{In}
use Rattle.log_model.specs.Ring.{IsPlace}
use Rattle.volume_ops.specs.Volume.{disk_of}
use Rattle.crash_laws.specs.Rules.{BaseImage}
use Rattle.host_machine.specs.Host.{opened}
use Rattle.journal_ring.specs.LogRing.{LogRing}
use Rattle.host_machine.specs.laws.Contract.{Over, session}

-- The log begins at its first place, and nothing is in it.
pub record IsEmptyLog (ring : LogRing) : Type 0 where
  pub first : 1 ≤ ring.places.first
  pub place : IsPlace ring.places ring.places.first
  pub head : ring.head ≡ ring.places.first
  pub used : ring.used ≡ 0
  pub started : ring.started ≡ false
  pub homes : ring.homes ≡ []

-- The volume stands for the tree that is opened, and its metadata and the blocks of its files are the base image's.
pub record IsOpened {A T V C R : Type 0} (o : Over A T V C R) (Stands : V → T → Type 0) (v : V) (ring : LogRing) (zones limit : ℕ) (programs : List (List C)) : Type 0 where
  pub stands : Stands v o.model.root
  pub metadata : (b : ℕ) → o.model.metadata v b ≡ true → (In b o.reserved ⊎ In b o.freeable) × (o.model.bytes v b ≡ disk_of o.base b)
  pub freeable : (b : ℕ) → In b o.freeable → o.model.metadata v b ≡ true
  pub pages : (f i z : ℕ) → o.model.zone v f i ≡ Some z → o.model.bytes v z ≡ disk_of o.base z
  pub base : BaseImage (session o Stands [] (opened o.model o.setup v ring zones limit programs))
  pub log : IsEmptyLog ring
