-- Calls that ask.
use Rattle.tree_model.proofs.Outcomes.{quiet_stays}
use Rattle.tree_model.proofs.call_laws.asking_changes_nothing.Goals as goal

pub returns : goal.returns
returns c = record { same = quiet_stays }
