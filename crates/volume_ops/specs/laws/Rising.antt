-- The order of a file's mapped blocks.
use Rattle.std.specs.Prelude.{ℕ, ◌+◌, ◌≤◌, List, [], ◌∷◌}
use Rattle.volume_ops.specs.declared.found.Mapped.{Mapped}
use Rattle.volume_ops.specs.declared.found.Found.{Found}
use Rattle.volume_ops.specs.declared.found.Found.TheVariants as found

-- the indices rise strictly, from `low` on, and lie below `high`
abbrev pub RiseWithin : ℕ → List Mapped → ℕ → Type 0
RiseWithin low [] high = low ≤ high
RiseWithin low (m ∷ ms) high = (low ≤ m.index) × RiseWithin (m.index + 1) ms high

-- the indices rise strictly, and lie below the 7 + 512 + 512 * 512 blocks that a file can have
abbrev pub IsRising : List Mapped → Type 0
IsRising mapped = RiseWithin 0 mapped 262663

-- so those of a file
abbrev pub HasRising : Found → Type 0
HasRising (found.File f) = IsRising f.zones
HasRising other = Unit {0}
