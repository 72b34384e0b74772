use Rattle.std.proofs.Common.{refl}
use Rattle.host_core.proofs.gates.laws.calls_wait_by_their_parts.Goals as goal

pub returns : goal.returns
returns c g u s call = refl
