use Rattle.host_tests.proofs.MachineLemmas.GoingOut.{next, last, limit, queue}
use Rattle.host_tests.proofs.machine.plans.plans_go_out_one_by_one.Goals as goal

pub returns : goal.returns
returns g c = record {
  next = λ m u s p first q qs g room e left. next m u s p g room e first q qs left;
  last = λ m u s p first g room e left. last m u s p g room e first left;
  limit = λ m u full s p first qs g most e left. limit m u full s p g e first qs left most;
  queue = λ m u s p first qs g room e left. queue m u s p g room e first qs left;
}
