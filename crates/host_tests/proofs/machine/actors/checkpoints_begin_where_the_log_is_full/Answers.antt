use Rattle.host_tests.proofs.MachineLemmas.Acting.{fits_log, home, tail, limit, queue}
use Rattle.host_tests.proofs.machine.actors.checkpoints_begin_where_the_log_is_full.Goals as goal

pub returns : goal.returns
returns g c = record {
  fits = λ m u full s g e sent fits. fits_log m u full s g e sent fits;
  home = λ m u s h hs g room e sent over. home m u s g room e sent over h hs;
  tail = λ m u s g room e sent over. tail m u s g room e sent over;
  limit = λ m u full s g most e sent over. limit m u full s g e sent most over;
  queue = λ m u s g room e sent over. queue m u s g room e sent over;
}
