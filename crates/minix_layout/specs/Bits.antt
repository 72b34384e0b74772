-- The bits of the maps of inodes and zones.
use Rattle.std.specs.Prelude.{ℕ, ◌+◌, ◌-◌, ◌/◌, ◌%◌, ◌^◌, ◌==◌, bit_or, bit_and, Bool, if◌then◌else◌, List, slice_index, slice_index_or, slice_set}
use Rattle.std.specs.Int.{bit_at}
use Rattle.blk_base.specs.Block.{filled}
use Rattle.minix_layout.specs.declared.division.Geometry.{Geometry}
use Rattle.minix_layout.specs.declared.bits.BitPlace.{BitPlace}

-- bit n of a block: bit n mod 8 of byte n / 8, the least significant first
abbrev pub bit_of : List ℕ → ℕ → Bool
bit_of body n = bit_at (slice_index body (n / 8)) (n % 8) == 1

-- a byte with one of its eight bits set or cleared
abbrev pub byte_with : ℕ → ℕ → Bool → ℕ
byte_with byte bit value = if value then bit_or byte (2 ^ bit) else bit_and byte (255 - 2 ^ bit)

-- a block with bit n written
abbrev pub put_bit : List ℕ → ℕ → Bool → List ℕ
put_bit body n value = slice_set body (n / 8) (byte_with (slice_index body (n / 8)) (n % 8) value)

-- inode n has bit n of the map that begins at block 2
abbrev pub inode_bit : Geometry → ℕ → BitPlace
inode_bit g inode = record { block = 2 + inode / 8192; at = inode % 8192 }

-- the map of the zones follows, and the first zone of data has its bit 1
abbrev pub zone_bit : Geometry → ℕ → BitPlace
zone_bit g zone = record {
  block = 2 + g.imap + (zone - g.first + 1) / 8192;
  at = (zone - g.first + 1) % 8192;
}

-- the bit at a place of a volume's blocks
abbrev pub has_bit : List (List ℕ) → BitPlace → Bool
has_bit blocks p = bit_of (slice_index_or blocks p.block (filled 0)) p.at

-- the blocks with the bit at a place written
abbrev pub with_bit : List (List ℕ) → BitPlace → Bool → List (List ℕ)
with_bit blocks p value = slice_set blocks p.block (put_bit (slice_index_or blocks p.block (filled 0)) p.at value)
