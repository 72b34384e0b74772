use Rattle.std.proofs.Common.{◌≡◌, take}
use Rattle.order_model.proofs.trail.Trail+Block.of_image.Given as goal

abbrev pub invariant-loop-b : goal.invariant-loop-b
invariant-loop-b l = l.trail.items ≡ take l.b l.image
