use Rattle.std.proofs.Common.{refl, arith}
use Rattle.journal_ring.specs.laws.Places.{placed_in_use, apart}
use Rattle.journal_ring.proofs.laws.places_are_free_or_in_use.Goals as goal

pub returns-clause-counted : goal.returns-clause-counted
returns-clause-counted c r few = omega (arith, few)

pub returns-clause-placed : goal.returns-clause-placed
returns-clause-placed c = placed_in_use

pub returns-clause-apart : goal.returns-clause-apart
returns-clause-apart c r i j = apart r.places r.head i j

pub returns-clause-emptied : goal.returns-clause-emptied
returns-clause-emptied c r = refl
