use Rattle.std.proofs.Common.{◌*◌}
use Rattle.byte_fields.specs.laws.ReadLaws.{record_at-put_same, record_at-put_other, get_or-put_other}
use Rattle.byte_fields.proofs.laws.records_are_read.Goals as goal

pub returns : goal.returns
returns c = record { read = record_at-put_same; other = record_at-put_other; bytes = λ n i ys b k. get_or-put_other (n * i) ys b k 0 }
