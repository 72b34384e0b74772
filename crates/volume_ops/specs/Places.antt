-- Where the parts of a Minix V1 volume stand, and what they say.
use Rattle.std.specs.Prelude.{ℕ, ◌+◌, ◌-◌, ◌*◌, ◌/◌, ◌%◌, ◌==◌, Bool, List, map, if◌then◌else◌}
use Rattle.std.specs.List.{range_with_len}
use Rattle.byte_fields.specs.Fields.{number_at, record_at}
use Rattle.byte_fields.specs.Fields.Order.{little}
use Rattle.minix_layout.specs.declared.division.Geometry.{Geometry}
use Rattle.minix_layout.specs.declared.inode.Inode.{Inode}
use Rattle.minix_layout.specs.Inodes.{inode_of}

-- The table of the inodes follows the maps; inode 1 is its first, and a block has 32.
abbrev pub table_block : Geometry → ℕ → ℕ
table_block g inode = 2 + g.imap + g.zmap + (inode - 1) / 32

-- an inode, of the bytes of its block of the table
abbrev pub inode_in_block : ℕ → List ℕ → Inode
inode_in_block inode body = inode_of (record_at 32 ((inode - 1) % 32) body)

-- the largest size of a file: 7 blocks, the 512 of an indirect zone and the 512 * 512 of a doubly indirect one
abbrev pub largest_size : ℕ
largest_size = 1024 * (7 + 512 + 512 * 512)

-- the kind of file is in the upper four bits of a mode
abbrev pub is_directory : ℕ → Bool
is_directory mode = mode / 4096 == 4

abbrev pub is_file : ℕ → Bool
is_file mode = mode / 4096 == 8

-- number k of a zone of numbers
abbrev pub zone_number : List ℕ → ℕ → ℕ
zone_number body k = number_at little 2 (2 * k) body

-- the 512 numbers of a zone of numbers
unfoldable pub zone_numbers : List ℕ → List ℕ
zone_numbers body = map (zone_number body) (range_with_len 0 512)

-- the root is inode 1 and has birth 0; each other node has the number of its inode
abbrev pub birth_of : ℕ → ℕ
birth_of inode = if inode == 1 then 0 else inode

abbrev pub inode_of_birth : ℕ → ℕ
inode_of_birth birth = if birth == 0 then 1 else birth
