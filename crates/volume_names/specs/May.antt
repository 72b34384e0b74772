-- What is asked of a volume before a call on names is done in it.
use Rattle.std.specs.Prelude.{◌≡◌, ℕ, ◌+◌, ◌<◌, ◌≤◌, IsTrue, false, List, length, count_by, Some, None}
use Rattle.tree_model.specs.Calls.{directory_zones, is_full, slots_with, most_links}
use Rattle.tree_model.specs.Maps.{at_number, at_name}
use Rattle.tree_model.specs.Paths.{is_path_name}
use Rattle.tree_model.specs.Plain.{AreBornBefore}
use Rattle.volume_ops.specs.declared.found.Mapped.{Mapped}
use Rattle.minix_tables.specs.zones.Zones.{is_free}
use Rattle.volume_model.specs.declared.placed.Placed.{Placed}
use Rattle.volume_model.specs.declared.placed.Part.TheVariants as parts
use Rattle.volume_model.specs.declared.placed.DirectoryPart.{DirectoryPart}
use Rattle.volume_model.specs.Trees.{directory_from}
use Rattle.volume_steps.specs.Now.{VolumeNow, tree_of_now}
use Rattle.volume_steps.specs.Plain.{IsPlainNow}

-- a directory that does not have a name, and has room for it
pub record FreePlace (v : VolumeNow) (parent : ℕ) (name : List ℕ) : Type 0 where
  pub placed : Placed
  pub part : DirectoryPart
  pub stands : at_number v.contents.nodes parent ≡ Some placed
  pub is : placed.part ≡ parts.Directory part
  pub word : IsTrue (is_path_name name)
  pub short : length name ≤ part.width
  pub free : at_name part.names name ≡ None
  pub left : is_full (directory_from part) ≡ false

-- so many zones are free besides those that the directory takes for the name
abbrev pub LeavesZones : (v : VolumeNow) (parent : ℕ) (name : List ℕ) → FreePlace v parent name → ℕ → Type 0
LeavesZones v parent name place more =
    directory_zones place.part.width (slots_with (directory_from place.part) name) + more ≤ directory_zones place.part.width (length place.part.slots) + count_by is_free v.zones.states

-- a file with birth n may come under this name
pub record MayCreate (v : VolumeNow) (n parent : ℕ) (name : List ℕ) : Type 0 where
  pub plain : IsPlainNow v
  pub born : AreBornBefore n (tree_of_now v)
  pub inode : length v.contents.nodes < v.geometry.inodes
  pub place : FreePlace v parent name
  pub zones : LeavesZones v parent name place 0

-- the file with this birth may get the name besides
pub record MayLink (v : VolumeNow) (birth parent : ℕ) (name : List ℕ) : Type 0 where
  pub plain : IsPlainNow v
  pub placed : Placed
  pub blocks : List Mapped
  pub stands : at_number v.contents.nodes birth ≡ Some placed
  pub is : placed.part ≡ parts.File blocks
  pub links : placed.inode.links < most_links
  pub place : FreePlace v parent name
  pub zones : LeavesZones v parent name place 0

-- a directory with birth n may come under this name
pub record MayMkdir (v : VolumeNow) (n parent : ℕ) (name : List ℕ) : Type 0 where
  pub plain : IsPlainNow v
  pub born : AreBornBefore n (tree_of_now v)
  pub inode : length v.contents.nodes < v.geometry.inodes
  pub place : FreePlace v parent name
  pub links : place.placed.inode.links < most_links
  pub zones : LeavesZones v parent name place 1
  pub some_zone : 1 ≤ count_by is_free v.zones.states
