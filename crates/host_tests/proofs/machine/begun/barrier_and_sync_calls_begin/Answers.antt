use Rattle.host_tests.proofs.MachineLemmas.UnderWay.{begins, entry, nothing_sent}
use Rattle.host_tests.proofs.machine.begun.barrier_and_sync_calls_begin.Goals as goal

pub returns : goal.returns
returns g c = record {
  begins = λ m u full s t call rest. begins m u full s t call rest;
  entry = λ m u full s t call rest. entry m u full s t call rest;
  nothing_sent = λ m u full s t call rest. nothing_sent m u full s t call rest;
}
