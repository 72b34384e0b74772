-- What a write and a cut ask of a volume.
use Rattle.std.specs.Prelude.{◌≡◌, ◌≤◌, ℕ, ◌+◌, ◌-◌, List, Some, count_by}
use Rattle.number_sets.specs.Sets.{with_all}
use Rattle.tree_model.specs.Maps.{at_number}
use Rattle.tree_model.specs.Calls.{file_zones, largest_size, touched_blocks}
use Rattle.volume_ops.specs.declared.found.Mapped.{Mapped}
use Rattle.volume_model.specs.declared.placed.Placed.{Placed}
use Rattle.volume_model.specs.declared.placed.Part.TheVariants as parts
use Rattle.volume_model.specs.Counts.{indices_of}
use Rattle.volume_steps.specs.Now.{VolumeNow}
use Rattle.volume_steps.specs.Plain.{IsInUse}
use Rattle.minix_tables.specs.zones.Zones.{is_free}

-- the zones that a file takes where bytes are written, of which these blocks are mapped
abbrev pub wanted_zones : List ℕ → ℕ → ℕ → ℕ
wanted_zones indices off len = file_zones (with_all indices (touched_blocks off len)) - file_zones indices

-- the node with this birth is a file
pub record IsFileOf (v : VolumeNow) (birth : ℕ) : Type 0 where
  pub placed : Placed
  pub zones : List Mapped
  pub stands : at_number v.contents.nodes birth ≡ Some placed
  pub is_file : placed.part ≡ parts.File zones

-- So many bytes are to be written: the volume is in use, the node is a file, the bytes end below the largest size, and
-- as many zones are free as they take.
pub record MayWrite (v : VolumeNow) (birth off len : ℕ) : Type 0 where
  pub in_use : IsInUse v
  pub file : IsFileOf v birth
  pub fits : off + len ≤ largest_size
  pub enough : wanted_zones (indices_of file.zones) off len ≤ count_by is_free v.zones.states

-- A file is to have this size.
pub record MayTruncate (v : VolumeNow) (birth size : ℕ) : Type 0 where
  pub in_use : IsInUse v
  pub file : IsFileOf v birth
  pub fits : size ≤ largest_size
