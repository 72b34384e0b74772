use Rattle.host_tests.proofs.MachineLemmas.UnderWay.{done, earlier, running, held, limit}
use Rattle.host_tests.proofs.machine.begun.begun_calls_wait_for_commit_blocks.Goals as goal

pub returns : goal.returns
returns g c = record {
  done = λ m u full s t call rest b kind k. done m u full s t call rest b kind k;
  earlier = λ m u full s t call rest b kind k. earlier m u full s t call rest b kind k;
  running = λ m u full s t call rest b kind. running m u full s t call rest b kind;
  held = λ m u full s t call rest b kind block more. held m u full s t call rest b kind block more;
  limit = λ m u full s t call rest b kind k. limit m u full s t call rest b kind k;
}
