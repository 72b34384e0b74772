use Rattle.host_tests.proofs.MachineLemmas.Acting.{closes, unwanted, held}
use Rattle.host_tests.proofs.machine.actors.wanted_transactions_are_closed.Goals as goal

pub returns : goal.returns
returns g c = record {
  closes = λ m u full s. closes m u full s;
  unwanted = λ m u full s. unwanted m u full s;
  held = λ m u full s. held m u full s;
}
