-- What is written of an image that is widened, or its fault.
use Rattle.std.specs.Prelude.{◌≡◌, Bool, true, false, ℕ, List, Option, Some, None, Result, Ok, Err}
use Rattle.std.specs.List.{concat}
use Rattle.mount_make.specs.Images.{FaultPlace}
use Rattle.widening.specs.Widened.{widened_image}
use Rattle.widening.specs.declared.fault.WidenFault.{WidenFault}
use Rattle.widening.specs.declared.fault.WidenFault.TheVariants as widening
use Rattle.barrierfs_top.specs.Show.{shown}
use Rattle.barrierfs_top.specs.declared.fault.TopFault.{TopFault}
use Rattle.barrierfs_top.specs.declared.fault.TopFault.TheVariants as faults

-- of the widened image: its bytes, or the text of its tree
abbrev pub written_of : Bool → List (List ℕ) → Result (List ℕ) FaultPlace
written_of true image = Ok (concat image)
written_of false image = shown image

-- the bytes are those that are written of an image with these blocks
pub record IsWidened (raw : Bool) (blocks : List (List ℕ)) (text : List ℕ) : Type 0 where
  pub image : List (List ℕ)
  pub widened : widened_image blocks ≡ Ok image
  pub written : written_of raw image ≡ Ok text

-- the first fault of the widened image, where nothing is written of it
abbrev pub written_fault : Result (List ℕ) FaultPlace → Option TopFault
written_fault (Ok text) = None
written_fault (Err (kind, block)) = Some (faults.Image kind block)

-- that fault, or why the image was not widened: its first fault, or that it has no room
abbrev pub fault_of : Bool → Result (List (List ℕ)) WidenFault → Option TopFault
fault_of raw (Ok image) = written_fault (written_of raw image)
fault_of raw (Err (widening.Image kind block)) = Some (faults.Image kind block)
fault_of raw (Err widening.NoRoom) = Some faults.NoRoom
fault_of raw (Err other) = None

-- the first fault of an image with these blocks, or that it has no room
abbrev pub widen_fault : Bool → List (List ℕ) → Option TopFault
widen_fault raw blocks = fault_of raw (widened_image blocks)

-- this is that fault, or want of memory
abbrev pub IsWidenFault : Bool → List (List ℕ) → TopFault → Type 0
IsWidenFault raw blocks (faults.Image kind block) = widen_fault raw blocks ≡ Some (faults.Image kind block)
IsWidenFault raw blocks faults.NoRoom = widen_fault raw blocks ≡ Some faults.NoRoom
IsWidenFault raw blocks faults.NoMemory = Unit {0}
IsWidenFault raw blocks other = ⊥

-- why an image with these blocks is not widened
abbrev pub IsUnwidened : List (List ℕ) → TopFault → Type 0
IsUnwidened blocks (faults.Image kind block) = widened_image blocks ≡ Err (widening.Image kind block)
IsUnwidened blocks faults.NoRoom = widened_image blocks ≡ Err widening.NoRoom
IsUnwidened blocks faults.NoMemory = Unit {0}
IsUnwidened blocks other = ⊥
