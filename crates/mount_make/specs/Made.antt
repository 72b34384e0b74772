-- The image of a new volume and an empty journal.
use Rattle.std.specs.Prelude.{ℕ, Bool, ◌+◌, ◌-◌, ◌*◌, ◌^◌, ◌==◌, ◌&&◌, nat_lt, nat_le, min, if◌then◌else◌, List, ◌∷◌, ◌++◌, map, replicate}
use Rattle.std.specs.List.{range_with_len}
use Rattle.blk_base.specs.Block.{filled}
use Rattle.minix_layout.specs.declared.division.Geometry.{Geometry}
use Rattle.minix_layout.specs.Super.{super_block as volume_super}
use Rattle.journal_blocks.specs.declared.super_block.JournalSuper.{JournalSuper}
use Rattle.journal_blocks.specs.Super.{super_block as journal_super}
use Rattle.volume_ops.specs.Volume.{disk_of}
use Rattle.volume_model.specs.NewVolume.{new_blocks}

-- Eight bits of a map, from bit n on, the first of them the least significant. Bits 0 and 1 are taken, which stand for
-- none and for the root's, and those past the last that the map is for.
abbrev pub map_byte : ℕ → ℕ → ℕ
map_byte last n = 256 - 2 ^ min (last + 1 - n) 8 + (if n == 0 then 3 else 0)

-- a block of a map, from bit n on
unfoldable pub map_block : ℕ → ℕ → List ℕ
map_block last n = map (λ k. map_byte last (n + 8 * k)) (range_with_len 0 1024)

-- A block of a new volume: the superblock, the maps of the inodes and of the zones of data, each with 8,192 bits in a
-- block, and behind the maps the root's inode and its zone.
unfoldable pub made_block : Geometry → ℕ → List ℕ
made_block g b =
    if b == 1 then volume_super g
    else if nat_le 2 b && nat_lt b (2 + g.imap) then map_block g.inodes (8192 * (b - 2))
    else if nat_le (2 + g.imap) b && nat_lt b (2 + g.imap + g.zmap) then map_block (g.zones - g.first) (8192 * (b - (2 + g.imap)))
    else disk_of (new_blocks g) b

unfoldable pub made_volume : Geometry → List (List ℕ)
made_volume g = map (made_block g) (range_with_len 0 g.zones)

-- a journal whose log is empty; it has revoke blocks, and wide tags or not
abbrev pub new_journal : ℕ → Bool → JournalSuper
new_journal blocks wide = record { maxlen = blocks; first = 1; sequence = 1; start = 0; incompat = if wide then 3 else 1 }

-- the volume, and behind it the journal, of zeros but for its superblock
abbrev pub made_image : Geometry → ℕ → Bool → List (List ℕ)
made_image g journal wide = made_volume g ++ journal_super (new_journal journal wide) ∷ replicate (journal - 1) (filled 0)
