-- What is asked of a volume before a call that takes a name away is done in it.
use Rattle.std.specs.Prelude.{◌≡◌, ℕ, List, [], Some}
use Rattle.tree_model.specs.Maps.{at_number, at_name}
use Rattle.volume_ops.specs.declared.found.Mapped.{Mapped}
use Rattle.volume_model.specs.declared.placed.Placed.{Placed}
use Rattle.volume_model.specs.declared.placed.Part.TheVariants as parts
use Rattle.volume_model.specs.declared.placed.DirectoryPart.{DirectoryPart}
use Rattle.volume_steps.specs.Now.{VolumeNow}
use Rattle.volume_steps.specs.Plain.{IsPlainNow}

-- a directory has this name, of the node with this birth
pub record HasName (v : VolumeNow) (parent : ℕ) (name : List ℕ) (birth : ℕ) : Type 0 where
  pub placed : Placed
  pub part : DirectoryPart
  pub stands : at_number v.contents.nodes parent ≡ Some placed
  pub is : placed.part ≡ parts.Directory part
  pub named : at_name part.names name ≡ Some birth

-- the node is a file
pub record MayUnlink (v : VolumeNow) (birth parent : ℕ) (name : List ℕ) : Type 0 where
  pub plain : IsPlainNow v
  pub place : HasName v parent name birth
  pub placed : Placed
  pub blocks : List Mapped
  pub stands : at_number v.contents.nodes birth ≡ Some placed
  pub is : placed.part ≡ parts.File blocks

-- the node is a directory without names
pub record MayRmdir (v : VolumeNow) (birth parent : ℕ) (name : List ℕ) : Type 0 where
  pub plain : IsPlainNow v
  pub place : HasName v parent name birth
  pub placed : Placed
  pub part : DirectoryPart
  pub stands : at_number v.contents.nodes birth ≡ Some placed
  pub is : placed.part ≡ parts.Directory part
  pub empty : part.names ≡ []
