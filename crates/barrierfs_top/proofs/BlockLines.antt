-- The lines of a report, one block after the other.
use Rattle.std.proofs.Common.{◌≡◌, ℕ, ◌+◌, ◌-◌, ◌<◌, ◌++◌, List, Option, suc, arith, refl, slice_get}
use Rattle.barrierfs_top.specs.Text.{block_line, block_lines, byte_of, origin_at}

pub block_lines-more : (image : List (List ℕ)) (origins : List (Option ℕ)) (b n : ℕ) → b < n
    → block_lines image origins b (n - b) ≡ block_line b (byte_of (slice_get image b)) (origin_at origins b) ++ block_lines image origins (b + 1) (n - (b + 1))
block_lines-more image origins b n lt = let e : n - b ≡ suc (n - (b + 1)) = omega arith in rw e refl
