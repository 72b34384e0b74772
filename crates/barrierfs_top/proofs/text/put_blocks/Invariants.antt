use Rattle.std.proofs.Common.{◌≡◌, ◌-◌, ◌++◌, length}
use Rattle.std.specs.String.{string_bytes}
use Rattle.barrierfs_top.specs.Text.{block_lines}
use Rattle.barrierfs_top.proofs.text.put_blocks.Given as goal

abbrev pub invariant-loop-b : goal.invariant-loop-b
invariant-loop-b l =
    string_bytes l.out ++ block_lines l.image l.origins l.b (length l.image - l.b) ≡ string_bytes l.fn.out ++ block_lines l.image l.origins 0 (length l.image)
