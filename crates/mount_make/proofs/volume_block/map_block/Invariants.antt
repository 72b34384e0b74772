use Rattle.std.proofs.Common.{◌≡◌, ◌+◌, ◌*◌}
use Rattle.mount_make.specs.Made.{map_byte}
use Rattle.mount_make.proofs.MapBytes.{filled_to}
use Rattle.mount_make.proofs.volume_block.map_block.Given as goal

abbrev pub invariant-loop-k : goal.invariant-loop-k
invariant-loop-k l = l.block ≡ filled_to (λ k. map_byte l.last (l.from + 8 * k)) 1024 l.k
