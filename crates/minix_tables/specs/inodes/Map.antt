-- Which zone each block of a file is.
use Rattle.std.specs.Prelude.{ℕ, ◌+◌, ◌-◌, ◌*◌, ◌/◌, ◌%◌, List, nat_lt, nat_eq, if◌then◌else◌, slice_index}

-- the first block whose number the indirect zone has, the first behind the doubly indirect zone, and the end
abbrev pub indirect_start : ℕ
indirect_start = 7

abbrev pub double_start : ℕ
double_start = indirect_start + 512

abbrev pub map_end : ℕ
map_end = double_start + 512 * 512

-- the number at a place of a zone of numbers; where that zone is a hole, so is all behind it
abbrev pub entry_behind : (ℕ → ℕ → ℕ) → ℕ → ℕ → ℕ
entry_behind entries zone place = if nat_eq zone 0 then 0 else entries zone place

-- the same over two levels: a zone that has the numbers of 512 zones of numbers
abbrev pub entry_behind_two : (ℕ → ℕ → ℕ) → ℕ → ℕ → ℕ
entry_behind_two entries zone place = entry_behind entries (entry_behind entries zone (place / 512)) (place % 512)

-- The zone of block `index`, 0 for a hole, of a file with these nine zones.
-- Zones 0 to 6 are its first blocks. Zone 7 has the numbers of the next 512. Zone 8 has the numbers of 512
-- zones, and each of these has the numbers of 512 blocks, in order. There are no blocks after these.
unfoldable pub zone_at : (ℕ → ℕ → ℕ) → List ℕ → ℕ → ℕ
zone_at entries zones index =
    if nat_lt index indirect_start then slice_index zones index
    else (if nat_lt index double_start then entry_behind entries (slice_index zones 7) (index - indirect_start)
    else (if nat_lt index map_end then entry_behind_two entries (slice_index zones 8) (index - double_start)
    else 0))
