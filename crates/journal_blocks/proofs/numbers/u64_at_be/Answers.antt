use Rattle.byte_fields.specs.Fields.{number_of}
use Rattle.byte_fields.specs.Fields.Order.{big}
use Rattle.journal_blocks.proofs.Slices.{read_slice}
use Rattle.journal_blocks.proofs.numbers.u64_at_be.Goals as goal

pub returns : goal.returns
unfolding number_of
returns c = read_slice big 8 c.args.at c.args.bytes.now c.read_u64.ensures
