use Rattle.minix_layout.specs.laws.BitLaws.{bit_read_back, other_bit, byte_beside_bit}
use Rattle.minix_layout.proofs.laws.bits_are_read.Goals as goal

pub returns : goal.returns
returns c = record { read = bit_read_back; other = other_bit; bytes = byte_beside_bit }
