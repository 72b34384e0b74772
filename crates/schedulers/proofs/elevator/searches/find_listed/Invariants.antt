-- Along the picks: the request at this place of the list.
use Rattle.std.proofs.Common.{◌≤◌}
use Rattle.schedulers.proofs.ElevatorLemmas.Finding.{IsFoundAt}
use Rattle.schedulers.proofs.elevator.searches.find_listed.Given as goal

abbrev pub invariant-loop-i : goal.invariant-loop-i
invariant-loop-i l = record {
  found : IsFoundAt l.queue.waiting l.head l.i l.found;
  few : l.i ≤ l.pick;
}
