use Rattle.byte_fields.specs.laws.ReadLaws.{number_at-put_same, number_at-put_bytes}
use Rattle.byte_fields.proofs.laws.numbers_are_read.Goals as goal

pub returns : goal.returns
returns c = record { read = number_at-put_same; other = number_at-put_bytes }
