-- Along the places: the best of the puts so far.
use Rattle.schedulers.specs.elevator.code.Found.{IsBest}
use Rattle.schedulers.proofs.elevator.searches.find_next.Given as goal

abbrev pub invariant-loop-i : goal.invariant-loop-i
invariant-loop-i l = IsBest l.queue.waiting l.head l.after l.i l.best
