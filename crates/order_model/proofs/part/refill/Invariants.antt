use Rattle.std.proofs.Common.{◌≡◌, take}
use Rattle.arrayvec.specs.ArrayVec.{array_vec_len}
use Rattle.order_model.proofs.part.refill.Given as goal

abbrev pub invariant-loop-part : goal.invariant-loop-part
invariant-loop-part l = (l.items.items ≡ take l.part-index l.from) × (array_vec_len l.items ≡ l.part-index)
