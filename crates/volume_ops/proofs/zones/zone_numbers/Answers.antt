use Rattle.std.proofs.Common.{arith}
use Rattle.volume_ops.proofs.ZoneNumbers.{zone_numbers_at}
use Rattle.volume_ops.proofs.zones.zone_numbers.Goals as goal

pub returns : goal.returns
returns c = zone_numbers_at c.args.body.now c.loop-k.number-items c.loop-k-test.array_long (λ j h. c.loop-k.invariant j (omega arith))
