-- The metadata of a volume by its fields, and the zones of the blocks of its files.
use Rattle.std.specs.Prelude.{◌≡◌, ◌≢◌, ℕ, ◌+◌, ◌<◌, ◌≤◌, ◌==◌, if◌then◌else◌, List, Option, Some, None}
use Rattle.minix_layout.specs.declared.division.Geometry.{Geometry}
use Rattle.minix_layout.specs.Words.{inode_blocks}
use Rattle.volume_ops.specs.Places.{inode_of_birth}
use Rattle.volume_ops.specs.Volume.{disk_of}
use Rattle.volume_ops.specs.VolumeFields.{inode_at, zone_behind}
use Rattle.volume_ops.specs.ZonePlaces.{ZonePlace, block}
use Rattle.volume_ops.specs.Faultless.{IsDirectory, HasZones, zone_at_place, IsReached}

-- the block behind the table of the inodes
abbrev pub table_end : Geometry → ℕ
table_end g = 2 + g.imap + g.zmap + inode_blocks g.inodes

-- a zone there has numbers of zones
abbrev pub HoldsNumbers : ZonePlace → Type 0
HoldsNumbers (block index) = ⊥
HoldsNumbers other = Unit {0}

-- A block of the metadata: the superblock, a block of the two maps or of the table of the inodes, a zone of numbers,
-- or a zone of a directory.
pub data IsMetadata (g : Geometry) (blocks : List (List ℕ)) (b : ℕ) : Type 0 where
  of_volume : 1 ≤ b → b < table_end g → IsMetadata g blocks b
  of_numbers : (inode : ℕ) (x : ZonePlace) → IsReached g blocks inode → HasZones g blocks inode → HoldsNumbers x → b ≢ 0 → zone_at_place g blocks inode x ≡ b → IsMetadata g blocks b
  of_directory : (inode index : ℕ) → IsReached g blocks inode → IsDirectory g blocks inode → b ≢ 0 → zone_at_place g blocks inode (block index) ≡ b → IsMetadata g blocks b

-- two images have the same bytes in the metadata of the first
abbrev pub AgreeOnMetadata : Geometry → List (List ℕ) → List (List ℕ) → Type 0
AgreeOnMetadata g blocks other = (b : ℕ) → IsMetadata g blocks b → disk_of other b ≡ disk_of blocks b

-- the zone of a block of the file with this birth, which is none where the block is a hole
abbrev pub zone_of_block : Geometry → List (List ℕ) → ℕ → ℕ → Option ℕ
zone_of_block g blocks birth index =
    if zone_behind blocks (inode_at g blocks (inode_of_birth birth)) index == 0 then None
    else Some (zone_behind blocks (inode_at g blocks (inode_of_birth birth)) index)
