-- What is held of a store after its run.
use Rattle.std.specs.Prelude.{◌≡◌, true, ℕ, [], ◌∷◌, Ok}
use Rattle.tree_model.specs.Calls.{Tree}
use Rattle.volume_ops.specs.Volume.{VolumeState}
use Rattle.mount_make.specs.Images.{image_tree, tree_after}
use Rattle.wal_store.specs.Puts.{is_key, is_value}
use Rattle.wal_store.specs.Log.{Pairs, held_in}
use Rattle.wal_store.specs.declared.log.LogContents.{LogContents}
use Rattle.session_core.specs.declared.report.SessionReport.{SessionReport}
use Rattle.store_core.specs.Stores.{log_in}

-- What a tree holds of a store with a log of so many blocks: how many puts, and the pairs that these leave.
abbrev pub held_on : ℕ → Tree → LogContents
held_on room tree = held_in (log_in room tree)

-- a volume that was mounted has a tree that holds this
pub record IsHeldOn (room : ℕ) (v : VolumeState) (h : LogContents) : Type 0 where
  pub tree : Tree
  pub stands : tree_after (Ok v) ≡ Ok tree
  pub held : h ≡ held_on room tree

-- The tree of what the power cut left, once that was recovered, holds this.
pub record IsHeldAfter (room : ℕ) (r : SessionReport) (h : LogContents) : Type 0 where
  pub tree : Tree
  pub recovered : image_tree r.cut.image.items ≡ Ok tree
  pub held : h ≡ held_on room tree

-- each pair is a key with a value, of the lengths and characters that these may have
abbrev pub ArePairs : Pairs → Type 0
ArePairs [] = Unit {0}
ArePairs ((key, value) ∷ pairs) = (is_key key ≡ true) × (is_value value ≡ true) × ArePairs pairs
