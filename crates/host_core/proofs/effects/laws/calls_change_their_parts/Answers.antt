use Rattle.host_core.proofs.EffectsLemmas.Machine.{change_is}
use Rattle.host_core.proofs.effects.laws.calls_change_their_parts.Goals as goal

pub returns : goal.returns
returns g c m u s call v r t = change_is m u s call v r t
