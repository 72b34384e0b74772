use Rattle.session_core.proofs.RunLemmas.PartsLemmas.Waiting.{advance_leaves}
use Rattle.session_core.proofs.run.parts.idle_steps.waiting_steps_leave_the_host.Goals as goal

pub returns : goal.returns
returns g c = λ m u full h t. advance_leaves m u full h t
