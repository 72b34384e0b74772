-- What holds of the fields of a map of inodes.
use Rattle.std.specs.Prelude.{◌≡◌, ℕ, ◌<◌, ◌≤◌, ◌^◌, Bool, true, List, length}
use Rattle.volume_ops.specs.Marks.{is_marked}

-- each inode below this one is in use
abbrev pub AreUsedBelow : List Bool → ℕ → Type 0
AreUsedBelow marks low = (number : ℕ) → 0 < number → number < low → is_marked marks number ≡ true

-- which inodes are in use, by number; from 1 to below `low`, the hint, all are
pub record IsInodeMap (marks : List Bool) (low : ℕ) : Type 0 where
  pub some : 0 < low
  pub used_below : AreUsedBelow marks low
  pub few : length marks ≤ 2 ^ 16
