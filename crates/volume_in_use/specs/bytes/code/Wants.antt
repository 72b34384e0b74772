-- The zones that a write wants, as the code counts them: holes among the blocks from `first` up to `end`, and among the
-- zones of numbers that lead to them.
use Rattle.std.specs.Prelude.{ℕ, ◌+◌, ◌-◌, ◌*◌, nat_eq, nat_lt, Bool, ◌&&◌}
use Rattle.std.specs.List.{count_by, range_with_len}
use Rattle.tree_model.specs.Calls.{one_if}
use Rattle.volume_model.specs.Volume.{Place, block, indirect, double, inner}

-- holes among the blocks themselves
unfoldable pub data_holes : (Place → ℕ) → ℕ → ℕ → ℕ
data_holes own first end = count_by (λ index. nat_eq (own (block index)) 0) (range_with_len first (end - first))

-- those that the inode names
abbrev pub named_holes : (Place → ℕ) → ℕ → ℕ → ℕ
named_holes own first end =
    one_if (nat_lt first 519 && nat_lt 7 end && nat_eq (own indirect) 0) + one_if (nat_lt 519 end && nat_eq (own double) 0)

-- a group of 512 blocks has one of them
abbrev pub is_reached : ℕ → ℕ → ℕ → Bool
is_reached first end group = nat_lt first (1031 + 512 * group) && nat_lt (519 + 512 * group) end

-- those of so many groups from group `low` on that have one of the blocks
unfoldable pub group_holes : (Place → ℕ) → ℕ → ℕ → ℕ → ℕ → ℕ
group_holes own first end low count = count_by (λ group. is_reached first end group && nat_eq (own (inner group)) 0) (range_with_len low count)
