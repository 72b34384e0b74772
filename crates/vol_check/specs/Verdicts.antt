-- What a check of a volume tells: that it is clean, or the first fault and its block.
use Rattle.std.specs.Prelude.{◌≡◌, ℕ, ◌+◌, ◌<◌, ◌≤◌, List, Option, Some, None}
use Rattle.minix_layout.specs.declared.division.Geometry.{Geometry}
use Rattle.minix_layout.specs.Bits.{inode_bit, zone_bit}
use Rattle.volume_ops.specs.Places.{table_block}
use Rattle.vol_check.specs.declared.verdict.Verdict.{Verdict}
use Rattle.vol_check.specs.declared.verdict.Verdict.TheVariants as verdicts
use Rattle.vol_check.specs.Clean.{HasInodeBit, HasZoneBit, HasLinks, HasDots, dots_block, IsClean}

-- ---- the first of some numbers

-- each number from `from` to below `end` is so
abbrev pub AllFrom : ℕ → ℕ → (ℕ → Type 0) → Type 0
AllFrom from end Holds = (k : ℕ) → from ≤ k → k < end → Holds k

-- the least of them that is not
pub record IsFirst (from end : ℕ) (Holds : ℕ → Type 0) (n : ℕ) : Type 0 where
  pub low : from ≤ n
  pub high : n < end
  pub fails : Holds n → ⊥
  pub before : AllFrom from n Holds

-- ---- each kind of fault, by itself

-- the map of the inodes has no fault
abbrev pub HasAllInodeBits : Geometry → List (List ℕ) → Type 0
HasAllInodeBits g blocks = AllFrom 1 (g.inodes + 1) (HasInodeBit g blocks)

-- the map of the zones has none
abbrev pub HasAllZoneBits : Geometry → List (List ℕ) → Type 0
HasAllZoneBits g blocks = AllFrom g.first g.zones (HasZoneBit g blocks)

-- no inode has one in its links
abbrev pub HasAllLinks : Geometry → List (List ℕ) → Type 0
HasAllLinks g blocks = AllFrom 1 (g.inodes + 1) (HasLinks g blocks)

-- no directory has one in its dots
abbrev pub HasAllDots : Geometry → List (List ℕ) → Type 0
HasAllDots g blocks = AllFrom 1 (g.inodes + 1) (HasDots g blocks)

-- the first fault in the map of the inodes, and the block of its bit
pub record IsInodeMapFault (g : Geometry) (blocks : List (List ℕ)) (block : ℕ) : Type 0 where
  pub inode : ℕ
  pub first : IsFirst 1 (g.inodes + 1) (HasInodeBit g blocks) inode
  pub stands : (inode_bit g inode).block ≡ block

-- the first in the map of the zones, where the other map has none
pub record IsZoneMapFault (g : Geometry) (blocks : List (List ℕ)) (block : ℕ) : Type 0 where
  pub inode_bits : HasAllInodeBits g blocks
  pub zone : ℕ
  pub first : IsFirst g.first g.zones (HasZoneBit g blocks) zone
  pub stands : (zone_bit g zone).block ≡ block

-- the first in the links, where neither map has one, and the block of its inode
pub record IsLinksFault (g : Geometry) (blocks : List (List ℕ)) (block : ℕ) : Type 0 where
  pub inode_bits : HasAllInodeBits g blocks
  pub zone_bits : HasAllZoneBits g blocks
  pub inode : ℕ
  pub first : IsFirst 1 (g.inodes + 1) (HasLinks g blocks) inode
  pub stands : table_block g inode ≡ block

-- the first in the dots, where nothing else has one
pub record IsDotsFault (g : Geometry) (blocks : List (List ℕ)) (block : ℕ) : Type 0 where
  pub inode_bits : HasAllInodeBits g blocks
  pub zone_bits : HasAllZoneBits g blocks
  pub links : HasAllLinks g blocks
  pub inode : ℕ
  pub first : IsFirst 1 (g.inodes + 1) (HasDots g blocks) inode
  pub stands : dots_block g blocks inode ≡ block

-- what is told of a volume
abbrev pub IsVerdict : Geometry → List (List ℕ) → Verdict → Type 0
IsVerdict g blocks verdicts.Clean = IsClean g blocks
IsVerdict g blocks (verdicts.InodeMap block) = IsInodeMapFault g blocks block
IsVerdict g blocks (verdicts.ZoneMap block) = IsZoneMapFault g blocks block
IsVerdict g blocks (verdicts.Links block) = IsLinksFault g blocks block
IsVerdict g blocks (verdicts.Dots block) = IsDotsFault g blocks block

-- ---- what a search through numbers finds: the first that is not so, or none
abbrev pub IsFound : ℕ → ℕ → (ℕ → Type 0) → Option ℕ → Type 0
IsFound from end Holds (Some n) = IsFirst from end Holds n
IsFound from end Holds None = AllFrom from end Holds
