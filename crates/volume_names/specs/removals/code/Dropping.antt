-- A node that goes, with its zones.
use Rattle.std.specs.Prelude.{◌≡◌, ℕ, ◌<◌, ◌≤◌, Bool, List, [], ◌++◌, map, length, Some}
use Rattle.tree_model.specs.Maps.{at_number}
use Rattle.volume_ops.specs.declared.found.Mapped.{Mapped}
use Rattle.minix_layout.specs.Geometry.{IsSound}
use Rattle.minix_layout.specs.Widths.{most_slots}
use Rattle.volume_model.specs.declared.placed.Placed.{Placed}
use Rattle.volume_model.specs.declared.placed.Part.{Part}
use Rattle.volume_model.specs.declared.placed.Part.TheVariants as parts
use Rattle.volume_model.specs.declared.placed.DirectoryPart.{DirectoryPart}
use Rattle.volume_model.specs.Counts.{keeps_below}
use Rattle.volume_model.specs.Volume.{Place}
use Rattle.volume_steps.specs.Now.{VolumeNow}
use Rattle.volume_steps.specs.Steps.{metadata_gone}
use Rattle.volume_in_use.specs.bytes.code.Cutting.{MayGive}

-- of a file of which nothing is left no place stays
abbrev pub no_place : Place → Bool
no_place = keeps_below [] 0

-- the mapped blocks of a file
abbrev pub blocks_in : Part → List Mapped
blocks_in (parts.File zones) = zones
blocks_in (parts.Directory d) = []

-- a directory has at most 519 zones of slots
pub record HasFewSlots (v : VolumeNow) (birth : ℕ) : Type 0 where
  pub few : (p : Placed) (d : DirectoryPart) → at_number v.contents.nodes birth ≡ Some p → p.part ≡ parts.Directory d → length d.slots ≤ most_slots v.geometry.width

-- a node stands, these of its zones are metadata, and all its zones are in use when their turn comes
pub record MayDrop (v : VolumeNow) (tx n : ℕ) (metadata : List ℕ) : Type 0 where
  pub sound : IsSound v.geometry
  pub placed : Placed
  pub stands : at_number v.contents.nodes n ≡ Some placed
  pub number : 0 < placed.number
  pub listed : metadata ≡ metadata_gone v.contents placed placed.part
  pub used : MayGive tx v.zones (map (λ (m : Mapped). m.zone) (blocks_in placed.part) ++ metadata)
