use Rattle.host_core.proofs.AtOnceLemmas.Machine.{plain_is}
use Rattle.host_core.proofs.at_once.laws.plain_calls_step_on_their_parts.Goals as goal

pub returns : goal.returns
returns c g u s t call rest = plain_is g u s t call rest
