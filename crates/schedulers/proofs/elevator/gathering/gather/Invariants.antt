-- Along the rounds: what is still to be gathered from here ends where all of it from the start does.
use Rattle.std.proofs.Common.{◌≡◌, ◌+◌, ◌-◌, length, true}
use Rattle.order_model.specs.Parts.{block_follows}
use Rattle.schedulers.specs.elevator.Elevator.{gathered}
use Rattle.schedulers.specs.elevator.laws.Eligible.{IsRising}
use Rattle.schedulers.proofs.elevator.gathering.gather.Given as goal

abbrev pub invariant-loop-n : goal.invariant-loop-n
invariant-loop-n l = record {
  run : gathered (16 - l.n) l.ordered l.block (record { queue = l.queue; command = l.command }) ≡ gathered 15 l.fn.ordered l.fn.first (record { queue = l.fn.queue; command = l.fn.command });
  rising : IsRising l.queue.waiting;
  parts : length l.command.parts ≡ l.n;
  follows : block_follows l.command.parts l.block ≡ true;
  bound : l.block + 1 ≡ l.fn.first + l.n;
}
