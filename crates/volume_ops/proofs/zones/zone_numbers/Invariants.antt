use Rattle.std.proofs.Common.{◌≡◌, ℕ, ◌<◌, get_or}
use Rattle.volume_ops.specs.Places.{zone_number}
use Rattle.volume_ops.proofs.zones.zone_numbers.Given as goal

abbrev pub invariant-loop-k : goal.invariant-loop-k
invariant-loop-k l = (j : ℕ) → j < l.k → get_or l.number-items j 0 ≡ zone_number l.body j
