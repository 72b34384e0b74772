use Rattle.host_machine.proofs.ActorSteps.{writeback_keeps_rules}
use Rattle.host_machine.proofs.Steps.{advance_keeps}
use Rattle.host_machine.proofs.laws.steps.pages_keep_the_rules_by_themselves.Goals as goal

pub returns : goal.returns
returns g c = record {
  caller = λ o tree contract txs N s full t facts begins. advance_keeps contract txs N s facts full t begins;
  writeback = λ o tree contract txs N s full pick facts. writeback_keeps_rules contract s txs N facts.0 facts full pick;
}
