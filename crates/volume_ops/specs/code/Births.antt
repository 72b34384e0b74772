-- Births in the names of a directory.
use Rattle.std.specs.Prelude.{ℕ, ◌^◌, ◌<◌, ◌≤◌, List}
use Rattle.std.specs.List.{All}
use Rattle.minix_layout.specs.declared.division.Geometry.{Geometry}
use Rattle.volume_ops.specs.Places.{inode_of_birth}

-- the birth of an inode of the volume
pub record IsBirth (g : Geometry) (birth : ℕ) : Type 0 where
  pub fits : birth < 2 ^ 16
  pub within : inode_of_birth birth ≤ g.inodes

-- each name leads to an inode of the volume
pub record AreBirths (g : Geometry) (names : List (List ℕ × ℕ)) : Type 0 where
  pub each : All (λ e. IsBirth g e.1) names
