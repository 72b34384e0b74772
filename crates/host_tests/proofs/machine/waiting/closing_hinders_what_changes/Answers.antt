use Rattle.host_tests.proofs.MachineLemmas.Plainly.{still, closing, goes_on}
use Rattle.host_tests.proofs.machine.waiting.closing_hinders_what_changes.Goals as goal

pub returns : goal.returns
returns g c = record {
  still = λ m u full s t call rest p e. still m u full s t call rest p e;
  closing = λ m u full s t call rest p changes room e. closing m u full s t call rest p changes room e;
  goes = λ m u full s t call rest p changes e fits finds. goes_on m u full s t call rest p changes e fits finds;
}
