-- What an image is mounted as, or its first fault.
use Rattle.std.specs.Prelude.{◌≡◌, ℕ, Bool, ◌&&◌, nat_lt, if◌then◌else◌, List, take, length, Option, Some, None, Result, Ok, Err}
use Rattle.std.specs.Option.{option_map}
use Rattle.minix_layout.specs.declared.division.Geometry.{Geometry}
use Rattle.minix_layout.specs.declared.fault.LayoutFault.{LayoutFault}
use Rattle.minix_layout.specs.declared.fault.LayoutFault.TheVariants as layout
use Rattle.minix_layout.specs.Super.{super_of}
use Rattle.journal_blocks.specs.declared.super_block.JournalSuper.{JournalSuper}
use Rattle.journal_blocks.specs.declared.fault.JournalFault.{JournalFault}
use Rattle.journal_blocks.specs.declared.fault.JournalFault.TheVariants as journal
use Rattle.journal_blocks.specs.Super.{super_of as journal_super, is_journal}
use Rattle.journal_replay.specs.declared.fault.RecoverFault.{RecoverFault}
use Rattle.journal_replay.specs.declared.fault.RecoverFault.TheVariants as recovery
use Rattle.journal_replay.specs.Recovered.{recovered, journal_fault}
use Rattle.tree_model.specs.declared.node.Node.{Node}
use Rattle.volume_ops.specs.Walk.{Walked}
use Rattle.volume_ops.specs.Zones.{Fault}
use Rattle.volume_ops.specs.Volume.{VolumeState, disk_of, walked, tree_of}
use Rattle.volume_ops.specs.declared.fault.VolumeFault.{VolumeFault}
use Rattle.volume_ops.specs.declared.fault.VolumeFault.TheVariants as volume
use Rattle.mount_make.specs.declared.fault.ImageFault.{ImageFault}
use Rattle.mount_make.specs.declared.fault.ImageFault.TheVariants as image
use Rattle.mount_make.specs.declared.fault.MountFault.{MountFault}
use Rattle.mount_make.specs.declared.fault.MountFault.TheVariants as mount

-- a fault of an image, and the block at which it is told
abbrev pub FaultPlace : Type 0
FaultPlace = ImageFault × ℕ

abbrev pub image_fault : LayoutFault → ImageFault
image_fault layout.BadMagic = image.BadMagic
image_fault layout.BadGeometry = image.BadGeometry
image_fault layout.BadZone = image.BadZone
image_fault layout.BadInode = image.BadInode
image_fault layout.BadSlot = image.BadSlot

-- a journal that was found has the magic number, so that the fault of one without it is told of no image
abbrev pub journal_kind : JournalFault → ImageFault
journal_kind journal.BadKind = image.BadKind
journal_kind journal.BadCount = image.BadCount
journal_kind (journal.Feature bits) = image.Feature bits
journal_kind journal.NotMagic = image.BadKind
journal_kind journal.NoMemory = image.BadKind

-- ---- the volume's own tests, before the walk

-- the image has all blocks of the volume
abbrev pub whole_volume : List (List ℕ) → Geometry → Result Geometry FaultPlace
whole_volume blocks g = if nat_lt (length blocks) g.zones then Err (image.BadGeometry, length blocks) else Ok g

-- a fault of the superblock is told at block 1
abbrev pub by_super : List (List ℕ) → Result Geometry LayoutFault → Result Geometry FaultPlace
by_super blocks (Ok g) = whole_volume blocks g
by_super blocks (Err fault) = Err (image_fault fault, 1)

-- How the volume of an image is divided, or the first fault of this. With fewer than two blocks, or than the volume
-- has, the first block that is missing is told; the superblock is block 1.
unfoldable pub divided : List (List ℕ) → Result Geometry FaultPlace
divided blocks =
    if nat_lt (length blocks) 2 then Err (image.BadGeometry, length blocks)
    else by_super blocks (super_of (disk_of blocks 1))

-- ---- the journal, which begins where the volume ends

-- there is a block behind the volume, and it begins a journal
abbrev pub has_journal : ℕ → List (List ℕ) → Bool
has_journal base blocks = nat_lt base (length blocks) && is_journal (disk_of blocks base)

-- a fault of a journal with its block, as one of the image
abbrev pub as_told : JournalFault × ℕ → FaultPlace
as_told fault = (journal_kind fault.0, fault.1)

-- the first fault of the journal, where there is one
abbrev pub fault_in_journal : ℕ → List (List ℕ) → Option FaultPlace
fault_in_journal base blocks = if has_journal base blocks then option_map as_told (journal_fault base blocks) else None

-- the image, once its journal was recovered
abbrev pub recovered_from : ℕ → List (List ℕ) → List (List ℕ)
recovered_from base blocks = if has_journal base blocks then recovered base blocks else blocks

-- what is read
abbrev pub read_or_none : Result JournalSuper JournalFault → Option JournalSuper
read_or_none (Ok s) = Some s
read_or_none (Err fault) = None

-- what the superblock of the journal says, where there is one
abbrev pub journal_at : ℕ → List (List ℕ) → Option JournalSuper
journal_at base blocks = if has_journal base blocks then read_or_none (journal_super (disk_of blocks base)) else None

-- ---- all tests in their order

-- the blocks of the volume, once the journal was recovered
abbrev pub volume_in : Geometry → List (List ℕ) → List (List ℕ)
volume_in g blocks = take g.zones (recovered_from g.zones blocks)

-- the walk through the volume
abbrev pub by_walk : Geometry → List (List ℕ) → Result Walked Fault → Result VolumeState FaultPlace
by_walk g volume (Ok found) = Ok (record { geometry = g; blocks = volume })
by_walk g volume (Err fault) = Err (image_fault fault.0, fault.1)

-- comes behind the tests of the journal
abbrev pub by_journal : Geometry → List (List ℕ) → Option FaultPlace → Result VolumeState FaultPlace
by_journal g blocks (Some told) = Err told
by_journal g blocks None = by_walk g (volume_in g blocks) (walked g (volume_in g blocks))

-- and these behind the volume's own
abbrev pub by_geometry : List (List ℕ) → Result Geometry FaultPlace → Result VolumeState FaultPlace
by_geometry blocks (Ok g) = by_journal g blocks (fault_in_journal g.zones blocks)
by_geometry blocks (Err told) = Err told

-- what an image of these blocks is mounted as, or its first fault with its block
abbrev pub mounted : List (List ℕ) → Result VolumeState FaultPlace
mounted blocks = by_geometry blocks (divided blocks)

-- no journal is recovered where the division of the volume has a fault
abbrev pub recovered_by : List (List ℕ) → Result Geometry FaultPlace → List (List ℕ)
recovered_by blocks (Ok g) = recovered_from g.zones blocks
recovered_by blocks (Err told) = blocks

-- the image that mounting leaves; one whose volume is not whole stays as it is
abbrev pub recovered_image : List (List ℕ) → List (List ℕ)
recovered_image blocks = recovered_by blocks (divided blocks)

-- the tree of a volume that was mounted; it has no fault
abbrev pub tree_after : Result VolumeState FaultPlace → Result (List (ℕ × Node)) FaultPlace
tree_after (Err told) = Err told
tree_after (Ok v) =
    elim (tree_of v.geometry v.blocks) as (λ _. Result (List (ℕ × Node)) FaultPlace)
    [ Ok tree ↦ Ok tree | Err fault ↦ Err (image_fault fault.0, fault.1) ]

-- the tree of an image, or its first fault
abbrev pub image_tree : List (List ℕ) → Result (List (ℕ × Node)) FaultPlace
image_tree blocks = tree_after (mounted blocks)

-- ---- faults of mounting

-- the cause of a fault in what is told; those of the device and want of memory have none in the image
abbrev pub IsTold : {A : Type 0} → Result A FaultPlace → MountFault → Type 0
IsTold r (mount.Image fault block) = r ≡ Err (fault, block)
IsTold r other = Unit {0}

-- so of a journal
abbrev pub IsJournalTold : Option FaultPlace → MountFault → Type 0
IsJournalTold o (mount.Image fault block) = o ≡ Some (fault, block)
IsJournalTold o other = Unit {0}

-- a fault of a volume, as one of mounting
abbrev pub volume_fault : VolumeFault → MountFault
volume_fault volume.ReadFault = mount.ReadFault
volume_fault (volume.Layout fault block) = mount.Image (image_fault fault) block
volume_fault volume.NoMemory = mount.NoMemory

-- a fault of a recovery, as one of mounting
abbrev pub recovery_fault : RecoverFault → MountFault
recovery_fault recovery.ReadFault = mount.ReadFault
recovery_fault (recovery.DeviceFailed id) = mount.DeviceFailed id
recovery_fault (recovery.BadJournal fault block) = mount.Image (journal_kind fault) block
recovery_fault recovery.NoMemory = mount.NoMemory
