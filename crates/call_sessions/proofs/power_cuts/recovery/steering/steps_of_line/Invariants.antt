use Rattle.std.proofs.Common.{◌≡◌, ◌++◌, drop, map}
use Rattle.call_sessions.specs.power_cuts.recovery.code.WordSteps.{repeated_of}
use Rattle.call_sessions.proofs.power_cuts.recovery.steering.steps_of_line.Given as goal

-- the steps so far, and those of the words that are left, are those of all words
abbrev pub invariant-loop-steer : goal.invariant-loop-steer
invariant-loop-steer l = l.steps.items ++ map repeated_of (drop l.steer-index l.steer-items) ≡ map repeated_of l.steer-items
