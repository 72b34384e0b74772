use Rattle.byte_fields.specs.Fields.{bytes_of}
use Rattle.byte_fields.specs.Fields.Order.{big}
use Rattle.byte_fields.proofs.Slices.{put_slice}
use Rattle.byte_fields.proofs.put_u16_be.Goals as goal

pub returns-clause-value : goal.returns-clause-value
unfolding bytes_of
returns-clause-value c = put_slice big 2 c.args.at c.args.n c.args.bytes.now _ c.requires c.write_u16.ensures
