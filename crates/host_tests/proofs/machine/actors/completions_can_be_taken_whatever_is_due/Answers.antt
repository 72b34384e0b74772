use Rattle.std.proofs.Common.{refl}
use Rattle.host_tests.proofs.MachineLemmas.Acting.{took, unsent}
use Rattle.host_tests.proofs.machine.actors.completions_can_be_taken_whatever_is_due.Goals as goal

pub returns : goal.returns
returns g c = record {
  taken = λ m u s x. took m u s x;
  submitted = λ m u s next. unsent m u s next;
  none = λ m u s. refl;
}
