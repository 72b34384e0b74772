use Rattle.std.proofs.Common.{◌≤◌, arith}
use Rattle.mount_make.proofs.MapBytes.{byte_fits}
use Rattle.mount_make.proofs.volume_block.map_byte.Goals as goal
use Rattle.mount_make.proofs.volume_block.map_byte.Goals.{then-from-eq0, else-from-eq0}

pub overflow_cast-result : goal.overflow_cast-result
overflow_cast-result c =
    let free = c.min-free.ensures in
    let left = c.saturating_sub.ensures in
    let some = c.requires.some in
    let most : c.min-free.result ≤ 8 = omega (arith, free) in
    elim c.if-from-eq0.branch [
      | then-from-eq0 w ↦ let is = w.first-is in let none = w.if-from-eq0 in byte_fits c.min-free.result c.if-from-eq0.first most (λ _. omega (arith, free, left, some, none, is)) (omega (arith, is))
      | else-from-eq0 w ↦ let is = w.first-is in byte_fits c.min-free.result c.if-from-eq0.first most (λ some. omega (arith, is, some)) (omega (arith, is))
    ]
