-- What a list of writes changed, told by inodes and zones.
use Rattle.std.specs.Prelude.{◌≡◌, ℕ, ◌<◌, ◌≤◌, List, length}
use Rattle.minix_layout.specs.declared.division.Geometry.{Geometry}
use Rattle.volume_ops.specs.Volume.{disk_of}
use Rattle.volume_ops.specs.VolumeFields.{inode_at}
use Rattle.volume_model.specs.Volume.{IsWhole}

-- Inodes for which `I` does not hold and zones for which `Z` does not hold are as they were.
pub record Changes (g : Geometry) (I Z : ℕ → Type 0) (blocks after : List (List ℕ)) : Type 0 where
  pub whole : IsWhole after
  pub size : length after ≡ length blocks
  pub inodes : (j : ℕ) → 0 < j → j ≤ g.inodes → (I j → ⊥) → inode_at g after j ≡ inode_at g blocks j
  pub zones : (b : ℕ) → g.first ≤ b → (Z b → ⊥) → disk_of after b ≡ disk_of blocks b
