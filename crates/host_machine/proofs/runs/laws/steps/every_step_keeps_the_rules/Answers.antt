use Rattle.host_machine.proofs.RunsLemmas.RunHost.{opened_has, step_keeps}
use Rattle.host_machine.proofs.runs.laws.steps.every_step_keeps_the_rules.Goals as goal

pub returns : goal.returns
returns g c = record {
  opened = λ o tree contract v ring zones limit programs at. opened_has contract v ring zones limit programs at;
  step = λ o tree contract s e written blocks kept fits. step_keeps contract written blocks s e kept fits;
}
