use Rattle.host_tests.proofs.MachineLemmas.GoingOut.{page_limit, page_queue, none_left}
use Rattle.host_tests.proofs.machine.plans.pages_of_begun_calls_need_room.Goals as goal

pub returns : goal.returns
returns g c = record {
  limit = λ m u full s t call rest b kind. page_limit m u full s t call rest b kind;
  queue = λ m u s t call rest b kind. page_queue m u s t call rest b kind;
  none_left = λ m u full s t call rest b kind. none_left m u full s t call rest b kind;
}
