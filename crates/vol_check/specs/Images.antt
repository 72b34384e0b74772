-- Images whose volume can be checked.
use Rattle.std.specs.Prelude.{◌≡◌, ℕ, ◌≤◌, List, length, take, Ok}
use Rattle.minix_layout.specs.declared.division.Geometry.{Geometry}
use Rattle.minix_layout.specs.Super.{super_of}
use Rattle.volume_ops.specs.Faultless.{IsFaultless}
use Rattle.volume_ops.specs.Volume.{disk_of}

-- A volume stands at the front of the image: there is a superblock, which says how the volume is divided, all its blocks
-- are there, and it has no fault.
pub record HasVolume (image : List (List ℕ)) (g : Geometry) : Type 0 where
  pub long : 2 ≤ length image
  pub divided : super_of (disk_of image 1) ≡ Ok g
  pub whole : g.zones ≤ length image
  pub faultless : IsFaultless g (take g.zones image)

abbrev pub CanBeChecked : List (List ℕ) → Type 0
CanBeChecked image = (g : Geometry) × HasVolume image g
