use Rattle.host_tests.proofs.MachineLemmas.Answering.{at_end, no_thread, down, read_only, reads, refused}
use Rattle.host_tests.proofs.machine.order.calls_end_in_this_order.Goals as goal

pub returns : goal.returns
returns g c = record {
  at_end = λ m u full s t b. at_end m u full s t b;
  no_thread = λ m u full s t. no_thread m u full s t;
  down = λ m u full s t call rest b. down m u full s t call rest b;
  read_only = λ m u full s t call rest b id before after. read_only m u full s t call rest b id before after;
  reads = λ m u full s t call rest. reads m u full s t call rest;
  refused = λ m u full s t call rest why. refused m u full s t call rest why;
}
