-- The widths of names: 14 bytes, or 30. A slot has two bytes more, and a block as many slots as it has room for.
use Rattle.std.specs.Prelude.{ℕ, ◌*◌, ◌==◌, if◌then◌else◌}

-- a width that there is
pub data IsWidth : ℕ → Type 0 where
  of_14 : IsWidth 14
  of_30 : IsWidth 30

-- The bytes of a slot, the number of an inode and a name; and the slots of a block, 1,024 divided by these. Both are
-- said of any number, so that no law on places needs to know that a width is one.
abbrev pub slot_size : ℕ → ℕ
slot_size width = if width == 30 then 32 else 16

abbrev pub slots_a_block : ℕ → ℕ
slots_a_block width = if width == 30 then 32 else 64

-- the most slots of a directory: 519 blocks, so that it needs no doubly indirect zone
abbrev pub most_slots : ℕ → ℕ
most_slots width = 519 * slots_a_block width
