use Rattle.std.specs.Option.{option_copied}
use Rattle.minix_layout.specs.laws.SlotLaws.{slot_read_back, other_slot, all_entries}
use Rattle.minix_layout.proofs.slots.write_slot.Goals as goal

pub returns-clause-read : goal.returns-clause-read
returns-clause-read c readable =
    let entry = all_entries c.args.width (option_copied c.args.s) readable c.requires.short c.put_sized.ensures.entry in
    rw c.put_sized.ensures.value (slot_read_back c.args.width c.args.b.now c.args.at (option_copied c.args.s) c.requires.width c.put_sized.ensures.size c.requires.place entry)

pub returns-clause-others : goal.returns-clause-others
returns-clause-others c k within differ =
    rw c.put_sized.ensures.value (other_slot c.args.width c.args.b.now c.args.at k (option_copied c.args.s) c.requires.width c.put_sized.ensures.size c.requires.place within differ c.requires.short)
