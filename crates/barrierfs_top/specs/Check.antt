-- How the check of an image ends, once its journal was recovered.
use Rattle.std.specs.Prelude.{◌≡◌, ℕ, List, Option, Some, None, Ok, Err}
use Rattle.mount_make.specs.Images.{mounted}
use Rattle.vol_check.specs.declared.verdict.Verdict.{Verdict}
use Rattle.vol_check.specs.declared.verdict.Verdict.TheVariants as verdicts
use Rattle.vol_check.specs.Verdicts.{IsVerdict}
use Rattle.volume_ops.specs.Volume.{VolumeState}
use Rattle.barrierfs_top.specs.declared.fault.TopFault.{TopFault}
use Rattle.barrierfs_top.specs.declared.fault.TopFault.TheVariants as faults

-- an image with these blocks is mounted, and this is told of its volume
pub record HasVerdict (blocks : List (List ℕ)) (verdict : Verdict) : Type 0 where
  pub volume : VolumeState
  pub mounts : mounted blocks ≡ Ok volume
  pub told : IsVerdict volume.geometry volume.blocks verdict

-- Without a fault where the volume is clean, by the first fault of an image that is not mounted, or by the verdict.
abbrev pub IsChecked : List (List ℕ) → Option TopFault → Type 0
IsChecked blocks None = HasVerdict blocks verdicts.Clean
IsChecked blocks (Some (faults.Image kind block)) = mounted blocks ≡ Err (kind, block)
IsChecked blocks (Some (faults.Unsound verdict)) = HasVerdict blocks verdict × (verdict ≡ verdicts.Clean → ⊥)
IsChecked blocks (Some other) = ⊥

-- a check ends by this fault, or by want of memory
abbrev pub IsCheckFault : List (List ℕ) → TopFault → Type 0
IsCheckFault blocks (faults.Image kind block) = IsChecked blocks (Some (faults.Image kind block))
IsCheckFault blocks (faults.Unsound verdict) = IsChecked blocks (Some (faults.Unsound verdict))
IsCheckFault blocks faults.NoMemory = Unit {0}
IsCheckFault blocks other = ⊥
