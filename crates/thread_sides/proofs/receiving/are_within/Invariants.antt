use Rattle.std.proofs.Common.{◌≡◌, drop}
use Rattle.thread_sides.specs.Admitted.{all_within}
use Rattle.thread_sides.proofs.receiving.are_within.Given as goal

abbrev pub invariant-loop-part : goal.invariant-loop-part
invariant-loop-part l = all_within l.blocks (drop l.part-index l.part-items) ≡ all_within l.blocks l.command.parts
