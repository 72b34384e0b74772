use Rattle.host_tests.proofs.MachineLemmas.Plainly.{enough, too_few}
use Rattle.host_tests.proofs.machine.waiting.quarantined_zones_are_waited_for.Goals as goal

pub returns : goal.returns
returns g c = record {
  enough = λ m u full s t call rest p changes room e fits few most. enough m u full s t call rest p changes room e fits few most;
  too_few = λ m u full s t call rest p changes room e fits few less. too_few m u full s t call rest p changes room e fits few less;
}
