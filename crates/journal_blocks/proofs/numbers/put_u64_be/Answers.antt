use Rattle.byte_fields.specs.Fields.{bytes_of}
use Rattle.byte_fields.specs.Fields.Order.{big}
use Rattle.journal_blocks.proofs.Slices.{put_slice}
use Rattle.journal_blocks.proofs.numbers.put_u64_be.Goals as goal

pub returns : goal.returns
unfolding bytes_of
returns c = put_slice big 8 c.args.at c.args.n c.args.bytes.now _ c.requires c.write_u64.ensures
