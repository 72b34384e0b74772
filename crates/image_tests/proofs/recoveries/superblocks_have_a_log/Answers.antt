use Rattle.image_tests.proofs.Recovering.{read_has_log, written_is_read}
use Rattle.image_tests.proofs.recoveries.superblocks_have_a_log.Goals as goal

pub returns : goal.returns
returns c = record { read = read_has_log; written = written_is_read }
