use Rattle.crash_laws.proofs.ChangeSteps.{change_step, present_step}
use Rattle.crash_laws.proofs.laws.hosts.changes_keep_the_facts.Goals as goal

pub returns : goal.returns
returns c = record {
  facts = λ g h s old new n told trees facts change zones. change_step trees facts change zones;
  present = present_step;
}
