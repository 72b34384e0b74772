-- What names are, and how many blocks a table takes.
use Rattle.std.specs.Prelude.{ℕ, ◌+◌, ◌==◌, Bool, not, ◌&&◌, nat_lt, nat_le, if◌then◌else◌, List, length, Option, Some, None}
use Rattle.std.specs.List.{list_any}
use Rattle.std.specs.Int.{div_ceil}

-- 1 to 30 bytes, none of them 0
abbrev pub is_name : List ℕ → Bool
is_name bytes = nat_lt 0 (length bytes) && (nat_le (length bytes) 30 && not (list_any (λ b. b == 0) bytes))

-- the name of these bytes, if they are one
abbrev pub name_from : List ℕ → Option (List ℕ)
name_from bytes = if is_name bytes then Some bytes else None

-- how many blocks hold so many bits, 8,192 a block
abbrev pub bit_blocks : ℕ → ℕ
bit_blocks bits = div_ceil bits 8192

-- how many blocks hold so many inodes, 32 a block
abbrev pub inode_blocks : ℕ → ℕ
inode_blocks inodes = div_ceil inodes 32

-- the first zone of a volume of so many inodes and zones: it begins behind the boot block, the superblock, both maps and the inodes
abbrev pub first_zone : ℕ → ℕ → ℕ
first_zone inodes zones = 2 + bit_blocks (inodes + 1) + bit_blocks (zones + 1) + inode_blocks inodes
