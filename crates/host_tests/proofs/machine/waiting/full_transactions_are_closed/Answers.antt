use Rattle.host_tests.proofs.MachineLemmas.Plainly.{is_full}
use Rattle.host_tests.proofs.machine.waiting.full_transactions_are_closed.Goals as goal

pub returns : goal.returns
returns g c = record {
  full = λ m u full s t call rest p changes room e over. is_full m u full s t call rest p changes room e over;
}
