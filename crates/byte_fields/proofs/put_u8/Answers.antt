use Rattle.byte_fields.proofs.Slices.{put_byte}
use Rattle.byte_fields.proofs.put_u8.Goals as goal
use Rattle.std.proofs.Common.{arith}

pub returns-clause-value : goal.returns-clause-value
returns-clause-value c order = put_byte order c.args.at c.args.n c.args.bytes.now c.requires (omega (arith, c.ranges.n.fits))
