use Rattle.store_core.proofs.HeldStores.{nothing-later}
use Rattle.store_core.proofs.laws.nothing_put_later_survives_a_lost_put.Goals as goal

pub returns : goal.returns
returns c x end r well is full = nothing-later x well end r is full
