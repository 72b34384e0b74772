use Rattle.std.proofs.Common.{refl}
use Rattle.minix_layout.specs.Slots.{slot_of_size}
use Rattle.minix_layout.proofs.Middles.{put_middle}
use Rattle.minix_layout.proofs.slots.slot_record.Goals as goal

pub returns-in-Some-clause-value : goal.returns-in-Some-clause-value
unfolding slot_of_size
returns-in-Some-clause-value g c =
    let made = put_middle 2 c.zeroed-bytes.result c.as_slice-name.result.now in
    rw (c.put_u16_le.ensures.value, c.copy_from_slice.ensures.after, made, c.as_slice-name.ensures.value, c.zeroed-bytes.ensures, c.in-Some.is) refl
