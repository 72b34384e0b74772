-- What is asked of a volume before a rename is done in it.
use Rattle.std.specs.Prelude.{◌≡◌, ◌≢◌, ◌<◌, ◌≤◌, ℕ, IsTrue, true, List, length, Some, None}
use Rattle.tree_model.specs.Calls.{most_links}
use Rattle.tree_model.specs.Maps.{at_number, at_name}
use Rattle.tree_model.specs.Paths.{is_path_name}
use Rattle.volume_ops.specs.declared.found.Mapped.{Mapped}
use Rattle.volume_model.specs.declared.placed.Placed.{Placed}
use Rattle.volume_model.specs.declared.placed.Part.TheVariants as parts
use Rattle.volume_model.specs.declared.placed.DirectoryPart.{DirectoryPart}
use Rattle.volume_steps.specs.Now.{VolumeNow}
use Rattle.volume_steps.specs.Plain.{IsPlainNow}
use Rattle.volume_names.specs.May.{FreePlace, LeavesZones}
use Rattle.volume_names.specs.removals.May.{HasName}
use Rattle.volume_names.specs.renames.Renamed.{birth_named, is_directory_at}

-- a node that has this name, and does not stand in itself
pub record Leaves (v : VolumeNow) (from : ℕ) (name : List ℕ) (birth : ℕ) : Type 0 where
  pub plain : IsPlainNow v
  pub place : HasName v from name birth
  pub child : Placed
  pub stands : at_number v.contents.nodes birth ≡ Some child
  pub apart : birth ≢ from

-- it may have another name there, which no node has
pub record MayMoveWithin (v : VolumeNow) (n : ℕ) (name other : List ℕ) (birth : ℕ) : Type 0 where
  pub leaves : Leaves v n name birth
  pub word : IsTrue (is_path_name other)
  pub short : length other ≤ v.geometry.width
  pub free : at_name leaves.place.part.names other ≡ None

-- it may have a name in another directory
pub record MayMoveAcross (v : VolumeNow) (from : ℕ) (name : List ℕ) (to : ℕ) (other : List ℕ) (birth : ℕ) : Type 0 where
  pub leaves : Leaves v from name birth
  pub away : from ≢ to
  pub apart : birth ≢ to
  pub place : FreePlace v to other
  pub zones : LeavesZones v to other place 0

-- so may a directory, below another parent
pub record MayMoveBelow (v : VolumeNow) (from : ℕ) (name : List ℕ) (to : ℕ) (other : List ℕ) (birth : ℕ) : Type 0 where
  pub across : MayMoveAcross v from name to other birth
  pub part : DirectoryPart
  pub is : across.leaves.child.part ≡ parts.Directory part
  pub links : across.place.placed.inode.links < most_links

-- it may have the name of another file
pub record MayReplace (v : VolumeNow) (from : ℕ) (name : List ℕ) (to : ℕ) (other : List ℕ) (birth gone : ℕ) : Type 0 where
  pub leaves : Leaves v from name birth
  pub apart : birth ≢ gone
  pub place : HasName v to other gone
  pub word : IsTrue (is_path_name other)
  pub short : length other ≤ v.geometry.width
  pub placed : Placed
  pub blocks : List Mapped
  pub stands : at_number v.contents.nodes gone ≡ Some placed
  pub is : placed.part ≡ parts.File blocks

-- a node may have another name, by what has that
pub record MayRename (v : VolumeNow) (from : ℕ) (name : List ℕ) (to : ℕ) (other : List ℕ) (birth : ℕ) : Type 0 where
  pub within : birth_named v.contents.nodes to other ≡ None → from ≡ to → MayMoveWithin v from name other birth
  pub across : birth_named v.contents.nodes to other ≡ None → from ≢ to → MayMoveAcross v from name to other birth
  pub below : birth_named v.contents.nodes to other ≡ None → from ≢ to → is_directory_at v.contents.nodes birth ≡ true → MayMoveBelow v from name to other birth
  pub replace : (gone : ℕ) → birth_named v.contents.nodes to other ≡ Some gone → gone ≢ birth → MayReplace v from name to other birth gone
