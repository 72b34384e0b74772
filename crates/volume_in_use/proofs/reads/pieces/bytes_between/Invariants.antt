use Rattle.std.proofs.Common.{◌≡◌, ◌-◌, ◌≤◌, map}
use Rattle.std.specs.List.{range_with_len}
use Rattle.volume_ops.specs.Volume.{bodies_of}
use Rattle.volume_model.specs.Trees.{in_order}
use Rattle.volume_in_use.specs.reads.code.Pieces.{byte_of}
use Rattle.volume_in_use.proofs.reads.pieces.bytes_between.Given as goal

abbrev pub invariant-loop-at : goal.invariant-loop-at
invariant-loop-at l =
    (l.bytes.items ≡ map (byte_of (in_order (bodies_of l.blocks l.zones))) (range_with_len l.off (l.at - l.off)))
    × (l.off ≤ l.at) × (l.at - l.off ≤ l.end - l.off)

abbrev pub decreases-loop-at : goal.decreases-loop-at
decreases-loop-at l = l.end - l.at
