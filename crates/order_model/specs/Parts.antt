-- The parts of one command.
use Rattle.std.specs.Prelude.{◌≡◌, ℕ, ◌+◌, ◌-◌, ◌==◌, Bool, true, List, length, Some, slice_get, IsTrue}
use Rattle.std.specs.Option.{option_map_or}
use Rattle.order_model.specs.declared.part.Part.{Part}

-- the block is the one after the last part's, or there is no part
abbrev pub block_follows : List Part → ℕ → Bool
block_follows parts block = option_map_or (λ p. p.block + 1 == block) (slice_get parts (length parts - 1)) true

-- the part may be appended to these
abbrev pub Follows : List Part → Part → Type 0
Follows parts p = IsTrue (block_follows parts p.block)

-- the block of each part is the one after the block of the part before it
abbrev pub IsConsecutive : List Part → Type 0
IsConsecutive parts = (i : ℕ) (p q : Part) → slice_get parts i ≡ Some p → slice_get parts (i + 1) ≡ Some q → q.block ≡ p.block + 1
