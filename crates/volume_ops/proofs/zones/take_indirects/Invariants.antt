use Rattle.std.proofs.Common.{◌≡◌, ◌+◌, ◌*◌, drop}
use Rattle.volume_ops.specs.Reads.{answer}
use Rattle.volume_ops.specs.Zones.{take_indirects}
use Rattle.volume_ops.specs.Volume.{disk_of}
use Rattle.volume_ops.proofs.zones.take_indirects.Given as goal

abbrev pub invariant-loop-k : goal.invariant-loop-k
invariant-loop-k l =
    answer (disk_of l.disk) (take_indirects l.g l.pointer_block (l.index + 512 * l.k) (drop l.k l.numbers) (record { met = l.met; mapped = l.mapped }))
    ≡ answer (disk_of l.disk) (take_indirects l.g l.pointer_block l.index l.numbers (record { met = l.fn.met; mapped = l.fn.mapped }))
