-- The image of a volume with names of 14 bytes, made one with names of 30.
use Rattle.std.specs.Prelude.{◌≡◌, ℕ, ◌==◌, if◌then◌else◌, List, [], ◌∷◌, Result, Ok, Err}
use Rattle.minix_layout.specs.declared.division.Geometry.{Geometry}
use Rattle.minix_layout.specs.Super.{magic_for}
use Rattle.tree_model.specs.declared.node.Directory.{Directory}
use Rattle.volume_ops.specs.Volume.{VolumeState, put_nodes, walked}
use Rattle.volume_ops.specs.Walk.{Walked}
use Rattle.volume_ops.specs.Zones.{Fault}
use Rattle.volume_model.specs.Edits.{Edit, put_entry, edited_all}
use Rattle.mount_make.specs.Images.{FaultPlace, image_fault, mounted, recovered_image}
use Rattle.widening.specs.declared.fault.WidenFault.{WidenFault}
use Rattle.widening.specs.declared.fault.WidenFault.TheVariants as faults
use Rattle.widening.specs.Directories.{directories, free_zones, all_edits, has_no_room}

-- the same volume, with names of 30 bytes
abbrev pub wide : Geometry → Geometry
wide g = record { inodes = g.inodes; zones = g.zones; imap = g.imap; zmap = g.zmap; first = g.first; width = 30 }

-- the magic number is number 8 of the superblock, which tells the width
abbrev pub magic_edit : Edit
magic_edit = put_entry 1 8 (magic_for 30)

-- The image with these directories of its volume written anew, into these free zones.
abbrev pub with_directories : Geometry → List (List ℕ) → List (List ℕ) → List (ℕ × Directory) → List ℕ → Result (List (List ℕ)) WidenFault
with_directories g blocks image es free =
    if has_no_room g blocks es free then Err faults.NoRoom
    else Ok (edited_all g image (magic_edit ∷ all_edits g blocks es free))

-- the same by what the walk found; no write depends on the width
abbrev pub by_walk : Geometry → List (List ℕ) → List (List ℕ) → Result Walked Fault → Result (List (List ℕ)) WidenFault
by_walk g blocks image (Ok all) = with_directories (wide g) blocks image (directories (put_nodes blocks all.nodes [])) (free_zones g blocks all.zones)
by_walk g blocks image (Err fault) = Err (faults.Image (image_fault fault.0) fault.1)

-- a volume that was mounted, in its image; one that has names of 30 bytes stays as it is
unfoldable pub widened : VolumeState → List (List ℕ) → Result (List (List ℕ)) WidenFault
widened v image = if v.geometry.width == 30 then Ok image else by_walk v.geometry v.blocks image (walked v.geometry v.blocks)

abbrev pub by_mount : List (List ℕ) → Result VolumeState FaultPlace → Result (List (List ℕ)) WidenFault
by_mount image (Ok v) = widened v image
by_mount image (Err told) = Err (faults.Image told.0 told.1)

-- the widened image, once its journal was recovered, or why there is none
abbrev pub widened_image : List (List ℕ) → Result (List (List ℕ)) WidenFault
widened_image blocks = by_mount (recovered_image blocks) (mounted blocks)

-- ---- faults

-- the cause of a fault in what is told; those of the device and want of memory have none in the image
abbrev pub IsTold : {A : Type 0} → Result A WidenFault → WidenFault → Type 0
IsTold r (faults.Image fault block) = r ≡ Err (faults.Image fault block)
IsTold r faults.NoRoom = r ≡ Err faults.NoRoom
IsTold r faults.ReadFault = Unit {0}
IsTold r (faults.DeviceFailed id) = Unit {0}
IsTold r faults.NoMemory = Unit {0}
