use Rattle.byte_fields.specs.Fields.{number_of}
use Rattle.byte_fields.specs.Fields.Order.{big}
use Rattle.byte_fields.proofs.Slices.{read_slice}
use Rattle.byte_fields.proofs.u32_at_be.Goals as goal

pub returns : goal.returns
unfolding number_of
returns c = read_slice big 4 c.args.at c.args.bytes.now c.read_u32.ensures
