-- How the faults of a walk are told by a volume, and the faults that have no cause in its blocks.
use Rattle.volume_ops.specs.declared.walk_fault.WalkFault.{WalkFault}
use Rattle.volume_ops.specs.declared.walk_fault.WalkFault.TheVariants as walk_faults
use Rattle.volume_ops.specs.declared.fault.VolumeFault.{VolumeFault}
use Rattle.volume_ops.specs.declared.fault.VolumeFault.TheVariants as faults

abbrev pub of_walk : WalkFault → VolumeFault
of_walk (walk_faults.Layout fault block) = faults.Layout fault block
of_walk walk_faults.NoMemory = faults.NoMemory

-- reading failed, or memory was wanting
abbrev pub IsOutside : VolumeFault → Type 0
IsOutside (faults.Layout fault block) = ⊥
IsOutside other = Unit {0}
