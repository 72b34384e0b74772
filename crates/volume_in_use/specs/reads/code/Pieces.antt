-- The bytes of a file by its list of zones.
use Rattle.std.specs.Prelude.{ℕ, ◌/◌, ◌%◌, List, slice_index, Option}
use Rattle.std.specs.Option.{option_map}
use Rattle.minix_layout.specs.declared.inode.Inode.{Inode}
use Rattle.tree_model.specs.declared.node.File.{File}
use Rattle.tree_model.specs.Calls.{block_or_zeros}
use Rattle.tree_model.specs.Maps.{at_number}
use Rattle.volume_ops.specs.declared.found.Mapped.{Mapped}
use Rattle.volume_ops.specs.Volume.{disk_of, bodies_of}
use Rattle.volume_model.specs.Trees.{in_order}

-- a byte of a file with these mapped blocks
abbrev pub byte_of : List (ℕ × List ℕ) → ℕ → ℕ
byte_of bodies at = slice_index (block_or_zeros (at_number bodies (at / 1024))) (at % 1024)

-- the bytes of a zone, zeros for none
abbrev pub zone_body : List (List ℕ) → Option ℕ → List ℕ
zone_body blocks zone = block_or_zeros (option_map (disk_of blocks) zone)

-- the file of an inode and its mapped blocks
abbrev pub file_of : List (List ℕ) → Inode → List Mapped → File
file_of blocks i zones = record { size = i.size; links = i.links; blocks = in_order (bodies_of blocks zones) }
