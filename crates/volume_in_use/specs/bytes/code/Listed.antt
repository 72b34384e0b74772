-- What is listed of a cut before its first write.
use Rattle.std.specs.Prelude.{◌≡◌, ℕ, List, Some}
use Rattle.tree_model.specs.Maps.{at_number}
use Rattle.volume_ops.specs.declared.found.Mapped.{Mapped}
use Rattle.volume_model.specs.declared.placed.Placed.{Placed}
use Rattle.volume_model.specs.declared.placed.Part.TheVariants as parts
use Rattle.volume_model.specs.Counts.{keeps_below, indices_of}
use Rattle.volume_model.specs.Cut.{cuts, cut_edits, cut_told}
use Rattle.volume_model.specs.Edits.{touched_by_all}
use Rattle.volume_model.specs.Volume.{zone_in}
use Rattle.volume_model.specs.declared.editing.freed.CutZones.{CutZones}
use Rattle.volume_model.specs.declared.editing.written.WrittenZones.{WrittenZones}
use Rattle.volume_model.specs.editing.Zones.{blocks_cut, numbers_cut, written_list}
use Rattle.volume_steps.specs.Now.{VolumeNow}

-- the blocks that go from this file and its zones of numbers, and those in which a number changes
pub record IsListed (v : VolumeNow) (birth from : ℕ) (gone : CutZones) (written : WrittenZones) : Type 0 where
  pub placed : Placed
  pub zones : List Mapped
  pub stands : at_number v.contents.nodes birth ≡ Some placed
  pub is_file : placed.part ≡ parts.File zones
  pub blocks : gone.blocks.items ≡ blocks_cut zones from
  pub numbers : gone.numbers.items ≡ numbers_cut v.contents.blocks placed.inode (keeps_below (indices_of zones) from)
  pub told : written_list written ≡
      cut_told v.contents.blocks (λ x. zone_in v.contents.blocks placed.inode x) (keeps_below (indices_of zones) from) (cuts (keeps_below (indices_of zones) from) from)
