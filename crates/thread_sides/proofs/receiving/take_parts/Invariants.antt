use Rattle.std.proofs.Common.{◌≡◌, drop, map}
use Rattle.order_model.specs.declared.part.Part.{Part}
use Rattle.thread_sides.specs.Admitted.{take_new}
use Rattle.thread_sides.proofs.receiving.take_parts.Given as goal

abbrev pub invariant-loop-part : goal.invariant-loop-part
invariant-loop-part l = take_new l.flags (map (λ (p : Part). p.id) (drop l.part-index l.part-items)) ≡ take_new l.fn.flags (map (λ (p : Part). p.id) l.command.parts)
