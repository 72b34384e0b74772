-- Blocks behind the last one are zeros.
use Rattle.std.proofs.Common.{◌≡◌, ℕ, zero, suc, ◌<◌, ◌≤◌, List, length, replicate, slice_index, sym, subst, arith}
use Rattle.std.proofs.lemmas.List.{length-replicate, get_or_past}
use Rattle.blk_base.specs.Block.{filled}
use Rattle.volume_ops.specs.Volume.{disk_of}

abbrev pub IsWholeBlock : List ℕ → Type 0
IsWholeBlock body = (length body ≡ 1024) × ((k : ℕ) → slice_index body k < 256)

zeros_fit : (n k : ℕ) → slice_index (replicate n 0) k < 256
zeros_fit zero k = omega arith
zeros_fit (suc n) zero = omega arith
zeros_fit (suc n) (suc k) = zeros_fit n k

pub whole_behind : (blocks : List (List ℕ)) (b : ℕ) → length blocks ≤ b → IsWholeBlock (disk_of blocks b)
unfolding filled
whole_behind blocks b past = subst IsWholeBlock (sym (get_or_past blocks b (filled 0) past)) (length-replicate {A = ℕ} 1024 0, zeros_fit 1024)
