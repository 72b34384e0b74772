use Rattle.std.proofs.Common.{◌≡◌, ◌<◌, ℕ, length, get_or}
use Rattle.minix_layout.specs.Inodes.{zone_of}
use Rattle.minix_layout.proofs.table.zones_in.Given as goal

abbrev pub invariant-loop-k : goal.invariant-loop-k
invariant-loop-k l = (length l.number-items ≡ 9) × ((j : ℕ) → j < l.k → get_or l.number-items j 0 ≡ zone_of l.bytes j)
