use Rattle.host_tests.proofs.MachineLemmas.UnderWay.{flushed, waits, no_more}
use Rattle.host_tests.proofs.machine.begun.sync_calls_wait_for_a_flush_behind.Goals as goal

pub returns : goal.returns
returns g c = record {
  flushed = λ m u full s t call rest b kind target id f i. flushed m u full s t call rest b kind target id i f;
  waits = λ m u full s t call rest b kind target id i none. waits m u full s t call rest b kind target id i none;
  limit = λ m u full s t call rest b kind target id i none. no_more m u full s t call rest b kind target id i none;
}
