use Rattle.std.proofs.Common.{◌≡◌, drop}
use Rattle.host_machine.specs.Host.{unsent_on}
use Rattle.host_core.proofs.begun.pages.next_unsent.Given as goal

abbrev pub invariant-loop-at : goal.invariant-loop-at
invariant-loop-at l = unsent_on l.pages.pages (drop l.at l.list) ≡ unsent_on l.pages.pages (drop l.from l.list)
