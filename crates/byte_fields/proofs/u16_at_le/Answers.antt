use Rattle.byte_fields.specs.Fields.{number_of}
use Rattle.byte_fields.specs.Fields.Order.{little}
use Rattle.byte_fields.proofs.Slices.{read_slice}
use Rattle.byte_fields.proofs.u16_at_le.Goals as goal

pub returns : goal.returns
unfolding number_of
returns c = read_slice little 2 c.args.at c.args.bytes.now c.read_u16.ensures
