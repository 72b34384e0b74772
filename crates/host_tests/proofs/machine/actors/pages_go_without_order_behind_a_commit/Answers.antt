use Rattle.host_tests.proofs.MachineLemmas.Acting.{loose, firm, page_limit, page_queue, no_page}
use Rattle.host_tests.proofs.machine.actors.pages_go_without_order_behind_a_commit.Goals as goal

pub returns : goal.returns
returns g c = record {
  loose = λ m u s pick p g room own o. loose m u s pick p g own room o;
  firm = λ m u s pick p g room own o. firm m u s pick p g own room o;
  limit = λ m u full s pick p g most own. page_limit m u s pick p g own full most;
  queue = λ m u s pick p g room own. page_queue m u s pick p g own room;
  none = λ m u full s pick own. no_page m u full s pick own;
}
