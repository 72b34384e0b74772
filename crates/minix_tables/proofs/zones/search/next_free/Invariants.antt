use Rattle.minix_tables.specs.zones.Zones.{NoneFreeBelow}
use Rattle.minix_tables.proofs.zones.search.next_free.Given as goal

abbrev pub invariant-loop-at : goal.invariant-loop-at
invariant-loop-at l = NoneFreeBelow l.states l.at
