use Rattle.image_tests.proofs.Recovering.{tail_numbers, tail_others}
use Rattle.image_tests.proofs.recoveries.recoveries_change_the_tail_alone.Goals as goal

pub returns : goal.returns
returns c = record { numbers = tail_numbers; bytes = tail_others }
