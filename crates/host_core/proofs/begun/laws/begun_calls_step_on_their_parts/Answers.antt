use Rattle.host_core.proofs.BegunLemmas.Machine.{going_is}
use Rattle.host_core.proofs.begun.laws.begun_calls_step_on_their_parts.Goals as goal

pub returns : goal.returns
returns g c m u full s t call rest w b = going_is m u s t call rest b full w
