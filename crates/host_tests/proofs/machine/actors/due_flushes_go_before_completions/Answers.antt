use Rattle.host_tests.proofs.MachineLemmas.Acting.{due, due_limit, due_queue, taken, nothing_due}
use Rattle.host_tests.proofs.machine.actors.due_flushes_go_before_completions.Goals as goal

pub returns : goal.returns
returns g c = record {
  due = λ m u s next w id g room i needs came none. due m u s next w id g i needs came none room;
  limit = λ m u full s next w id g most i needs came none. due_limit m u s next w id g i needs came none full most;
  queue = λ m u s next w id g room i needs came none. due_queue m u s next w id g i needs came none room;
  taken = λ m u full s next h. taken m u full s h next;
  none = λ m u full s h. nothing_due m u full s h;
}
