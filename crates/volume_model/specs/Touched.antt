-- What a call tells of the blocks, zones and pages that it changed.
use Rattle.std.specs.Prelude.{◌≡◌, ◌≢◌, ℕ, ◌<◌, ◌≤◌, ◌⊎◌, List, ◌++◌, Some}
use Rattle.blk_base.specs.Members.{In}
use Rattle.minix_layout.specs.declared.division.Geometry.{Geometry}
use Rattle.tree_model.specs.Maps.{at_number}
use Rattle.volume_ops.specs.Volume.{disk_of}
use Rattle.volume_ops.specs.declared.found.Mapped.{Mapped}
use Rattle.volume_model.specs.declared.placed.Placed.{Placed}
use Rattle.volume_model.specs.declared.placed.Part.TheVariants as parts
use Rattle.volume_model.specs.declared.placed.DirectoryPart.{DirectoryPart}
use Rattle.volume_model.specs.Volume.{Place, block, zone_in, IsOfNumbers}

-- a block of a file: birth, index and zone
pub record Page : Type 0 where
  pub birth : ℕ
  pub index : ℕ
  pub zone : ℕ

-- metadata blocks that are written; zones that go, and those of them that were metadata; blocks of files that are
-- written, and those that go; births of nodes that come, go, or get another size, zones or slots
pub record Touched : Type 0 where
  pub blocks : List ℕ
  pub freed : List ℕ
  pub revoked : List ℕ
  pub pages : List Page
  pub dropped : List Page
  pub nodes : List ℕ

-- blocks and nodes of a volume
pub record Contents : Type 0 where
  pub blocks : List (List ℕ)
  pub nodes : List (ℕ × Placed)

-- The metadata of a volume: what lies before the zones, the zones of numbers, and those of directories.
pub data IsMeta (g : Geometry) (v : Contents) (b : ℕ) : Type 0 where
  of_tables : b < g.first → IsMeta g v b
  of_numbers : (birth : ℕ) (p : Placed) (x : Place) → at_number v.nodes birth ≡ Some p → IsOfNumbers x → zone_in v.blocks p.inode x ≡ b → b ≢ 0 → IsMeta g v b
  of_directory : (birth : ℕ) (p : Placed) (d : DirectoryPart) (i : ℕ) → at_number v.nodes birth ≡ Some p → p.part ≡ parts.Directory d → zone_in v.blocks p.inode (block i) ≡ b → b ≢ 0 → IsMeta g v b

-- a file maps its block to this zone
pub record HasPage (v : Contents) (x : Page) : Type 0 where
  pub placed : Placed
  pub zones : List Mapped
  pub stands : at_number v.nodes x.birth ≡ Some placed
  pub is_file : placed.part ≡ parts.File zones
  pub zone : zone_in v.blocks placed.inode (block x.index) ≡ x.zone
  pub some : x.zone ≢ 0

-- What is told agrees with the volumes before and after. `Writes` are the pairs of a birth and an index that the call writes.
pub record Tells (g : Geometry) (v w : Contents) (t : Touched) (Writes : ℕ → ℕ → Type 0) : Type 0 where
  pub fresh_are_touched : (b : ℕ) → IsMeta g w b → IsMeta g v b ⊎ In b t.blocks
  pub stays_or_revoked : (b : ℕ) → IsMeta g v b → IsMeta g w b ⊎ In b t.revoked
  pub revoked_are_left : (b : ℕ) → In b t.revoked → In b t.freed × (IsMeta g w b → ⊥) × (g.first ≤ b)
  pub kept : (b : ℕ) → (In b t.blocks → ⊥) → IsMeta g v b → IsMeta g w b → disk_of w.blocks b ≡ disk_of v.blocks b
  pub touched_are_meta : (b : ℕ) → In b t.blocks → In b t.revoked ⊎ (IsMeta g w b × (2 ≤ b) × (b < g.zones))
  pub pages_are_written : (x : Page) → In x t.pages → HasPage w x × Writes x.birth x.index
  pub was_or_written : (x : Page) → HasPage w x → HasPage v x ⊎ In x t.pages
  pub written_are_pages : (birth index : ℕ) → Writes birth index → (zone : ℕ) × In (record { birth = birth; index = index; zone = zone }) t.pages
  pub dropped_were_mapped : (x : Page) → In x t.dropped → HasPage v x × In x.zone t.freed × ((zone : ℕ) → HasPage w (record { birth = x.birth; index = x.index; zone = zone }) → ⊥)
  pub stays_or_dropped : (x : Page) → HasPage v x → HasPage w x ⊎ In x t.dropped
  pub data_kept : (x : Page) → HasPage w x → HasPage v x → (In x t.pages → ⊥) → disk_of w.blocks x.zone ≡ disk_of v.blocks x.zone

-- one call after the other, as one
abbrev pub and_then : Touched → Touched → Touched
and_then s t = record {
  blocks = s.blocks ++ t.blocks;
  freed = s.freed ++ t.freed;
  revoked = s.revoked ++ t.revoked;
  pages = s.pages ++ t.pages;
  dropped = s.dropped ++ t.dropped;
  nodes = s.nodes ++ t.nodes;
}

-- the second does not take what the first freed, nor drops or maps again what the first wrote or dropped
pub record Follows (w : Contents) (s t : Touched) : Type 0 where
  pub not_taken : (b : ℕ) → In b s.revoked → In b t.blocks → ⊥
  pub not_dropped : (x : Page) → In x s.pages → In x t.dropped → ⊥
  pub not_mapped : (x : Page) (zone : ℕ) → In x s.dropped → HasPage w (record { birth = x.birth; index = x.index; zone = zone }) → ⊥
