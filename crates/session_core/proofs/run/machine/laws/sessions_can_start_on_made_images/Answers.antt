use Rattle.session_core.proofs.RunLemmas.MachineLemmas.MadeStart.{made_can_start}
use Rattle.session_core.proofs.run.machine.laws.sessions_can_start_on_made_images.Goals as goal

pub returns : goal.returns
returns c = made_can_start
