use Rattle.byte_fields.proofs.Slices.{read_byte}
use Rattle.byte_fields.proofs.u8_at.Goals as goal

pub returns : goal.returns
returns c order = read_byte order c.args.at c.args.bytes.now
