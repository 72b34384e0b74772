use Rattle.std.proofs.Common.{◌≡◌, ℕ, ◌<◌, [], length, get_or}
use Rattle.barrierfs_top.proofs.session.check_blocks.Given as goal

abbrev pub invariant-loop-b : goal.invariant-loop-b
invariant-loop-b l = (i : ℕ) → i < l.b → length (get_or l.image i []) ≡ 1024
