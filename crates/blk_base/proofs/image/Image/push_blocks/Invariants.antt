use Rattle.std.proofs.Common.{◌≡◌, ◌++◌, map}
use Rattle.std.specs.List.{range_with_len}
use Rattle.blk_base.specs.Image.{bytes_at}
use Rattle.blk_base.proofs.image.Image.push_blocks.Given as goal

abbrev pub invariant-loop-b : goal.invariant-loop-b
invariant-loop-b l = record { pushed : l.self ≡ l.fn.self ++ map (bytes_at l.bytes) (range_with_len 0 l.b) }
