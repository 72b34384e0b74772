-- Faults of widening, by what is told of the image.
use Rattle.std.specs.Prelude.{◌≡◌, Result, Err}
use Rattle.mount_make.specs.declared.fault.MountFault.{MountFault}
use Rattle.mount_make.specs.declared.fault.MountFault.TheVariants as mount
use Rattle.widening.specs.declared.fault.WidenFault.{WidenFault}
use Rattle.widening.specs.declared.fault.WidenFault.TheVariants as faults

-- a fault of mounting, as one of widening
abbrev pub of_mount : MountFault → WidenFault
of_mount mount.ReadFault = faults.ReadFault
of_mount (mount.DeviceFailed id) = faults.DeviceFailed id
of_mount (mount.Image fault block) = faults.Image fault block
of_mount mount.NoMemory = faults.NoMemory

-- the cause of a fault of writing in what is told; want of memory has none in the image, and nothing is read
abbrev pub IsToldBy : {A : Type 0} → Result A WidenFault → WidenFault → Type 0
IsToldBy r faults.NoRoom = r ≡ Err faults.NoRoom
IsToldBy r faults.NoMemory = Unit {0}
IsToldBy r faults.ReadFault = ⊥
IsToldBy r (faults.DeviceFailed id) = ⊥
IsToldBy r (faults.Image fault block) = ⊥

-- a block could not be read, or memory was wanting
abbrev pub IsOutside : WidenFault → Type 0
IsOutside faults.ReadFault = Unit {0}
IsOutside faults.NoMemory = Unit {0}
IsOutside faults.NoRoom = ⊥
IsOutside (faults.DeviceFailed id) = ⊥
IsOutside (faults.Image fault block) = ⊥
