use Rattle.image_tests.proofs.Recovering.{ends_without_magic, ends_at_other_type, ends_at_other_sequence}
use Rattle.image_tests.proofs.recoveries.logs_end_where_no_header_stands.Goals as goal

pub returns : goal.returns
returns c = record { no_header = ends_without_magic; other_type = ends_at_other_type; other_sequence = ends_at_other_sequence }
