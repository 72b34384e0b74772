use Rattle.minix_layout.specs.laws.SlotLaws.{slot_free, slot_fault, slot_bad}
use Rattle.minix_layout.proofs.slots.read_slot.Goals as goal

pub returns-clause-free : goal.returns-clause-free
returns-clause-free c = rw (c.slot_in.ensures.value, c.part.ensures.value, c.slot_size-size.ensures) (slot_free c.args.width _)

pub returns-clause-fault : goal.returns-clause-fault
returns-clause-fault c = rw c.slot_in.ensures.value (slot_fault c.args.width _)

pub returns-clause-bad : goal.returns-clause-bad
returns-clause-bad c = rw (c.slot_in.ensures.value, c.part.ensures.value, c.slot_size-size.ensures) (slot_bad c.args.width _)
