use Rattle.minix_layout.specs.laws.SlotLaws.{slot_read_back, other_slot, byte_beside_slot}
use Rattle.minix_layout.specs.laws.Places.{size_fits, per_fits}
use Rattle.minix_layout.proofs.laws.slots_are_read.Goals as goal

pub returns : goal.returns
returns c = record { read = slot_read_back; other = other_slot; bytes = byte_beside_slot; fit = λ width is. (size_fits width is, per_fits width is) }
