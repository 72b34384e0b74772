use Rattle.std.proofs.Common.{◌≡◌, ◌+◌, drop}
use Rattle.volume_ops.specs.Zones.{take_blocks}
use Rattle.volume_ops.proofs.zones.take_blocks.Given as goal

abbrev pub invariant-loop-k : goal.invariant-loop-k
invariant-loop-k l =
    take_blocks l.g l.pointer_block (l.index + l.k) (drop l.k l.numbers) (record { met = l.met; mapped = l.mapped })
    ≡ take_blocks l.g l.pointer_block l.index l.numbers (record { met = l.fn.met; mapped = l.fn.mapped })
