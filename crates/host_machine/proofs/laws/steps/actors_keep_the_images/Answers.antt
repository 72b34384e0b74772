use Rattle.host_machine.proofs.ActorSteps.{commit_step_keeps, flush_step_keeps, take_step_keeps}
use Rattle.host_machine.proofs.laws.steps.actors_keep_the_images.Goals as goal

pub returns : goal.returns
returns g c = record {
  commit = λ o tree contract txs N s full facts order. commit_step_keeps contract s txs N facts order full;
  flush = λ o tree contract txs N s full next facts. flush_step_keeps contract s txs N facts full next;
  take = λ o tree contract txs N s next facts. take_step_keeps contract s txs N facts next;
}
