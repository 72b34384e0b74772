use Rattle.host_machine.specs.Host.{opened}
use Rattle.host_machine.proofs.RunsLemmas.RunHost.{opened_has, steps_keep}
use Rattle.host_machine.proofs.runs.laws.steps.runs_keep_the_rules.Goals as goal

pub returns : goal.returns
returns g c = record {
  rules = λ o tree contract v ring zones limit programs es written blocks at fits.
      let kept = steps_keep contract written blocks (opened o.model o.setup v ring zones limit programs) es (opened_has contract v ring zones limit programs at) fits in
      (kept.rules.0, kept.rules.2.rules);
  kept = λ o tree contract s es written blocks kept fits. steps_keep contract written blocks s es kept fits;
}
