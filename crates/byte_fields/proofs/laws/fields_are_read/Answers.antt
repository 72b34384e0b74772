use Rattle.byte_fields.specs.laws.ReadLaws.{fields_read, number_at-written}
use Rattle.byte_fields.proofs.laws.fields_are_read.Goals as goal

pub returns : goal.returns
returns c = record { read = fields_read; other = number_at-written }
