-- Which volumes can be opened.
use Rattle.std.specs.Prelude.{ℕ, List, IsTrue}
use Rattle.tree_model.specs.Paths.{is_path_name}
use Rattle.tree_model.specs.Rooted.{HasEntry}
use Rattle.tree_model.specs.Calls.{Tree}
use Rattle.volume_ops.specs.Volume.{VolumeState}
use Rattle.volume_model.specs.Plain.{IsPlainVolume}

-- Its tree is plain, and its names are those that a path can have: images that others made may have more.
pub record CanOpen (v : VolumeState) : Type 0 where
  pub tree : Tree
  pub plain : IsPlainVolume v.geometry v.blocks tree
  pub path_names : (parent : ℕ) (name : List ℕ) (birth : ℕ) → HasEntry tree parent name birth → IsTrue (is_path_name name)
