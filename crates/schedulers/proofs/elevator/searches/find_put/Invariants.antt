-- Along the places: none so far is a put of this block.
use Rattle.std.proofs.Common.{◌≡◌, ℕ, ◌<◌, Some}
use Rattle.schedulers.specs.elevator.code.Found.{block_there}
use Rattle.schedulers.proofs.elevator.searches.find_put.Given as goal

abbrev pub invariant-loop-i : goal.invariant-loop-i
invariant-loop-i l = (j : ℕ) → j < l.i → block_there l.queue.waiting j ≡ Some l.block → ⊥
