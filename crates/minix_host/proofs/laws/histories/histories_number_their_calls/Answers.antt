use Rattle.minix_host.proofs.Numbered.{numbers_kept, trees_are}
use Rattle.minix_host.proofs.laws.histories.histories_number_their_calls.Goals as goal

pub returns : goal.returns
returns g c = record { numbers = numbers_kept; trees = trees_are }
