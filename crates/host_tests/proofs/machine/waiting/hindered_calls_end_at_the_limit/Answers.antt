use Rattle.host_tests.proofs.MachineLemmas.Plainly.{at_limit}
use Rattle.host_tests.proofs.machine.waiting.hindered_calls_end_at_the_limit.Goals as goal

pub returns : goal.returns
returns g c = record {
  limit = λ m u full s t call rest p changes most why. at_limit m u full s t call rest p changes most why;
}
