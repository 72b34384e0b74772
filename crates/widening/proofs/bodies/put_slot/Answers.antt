use Rattle.minix_layout.specs.Widths.{of_30}
use Rattle.widening.proofs.bodies.put_slot.Goals as goal

pub write_slot-requires-clause-width : goal.write_slot-requires-clause-width
write_slot-requires-clause-width c = of_30
