use Rattle.volume_calls.proofs.DirectorySlots.{room_tells}
use Rattle.volume_calls.proofs.directories.needs_slot.Goals as goal

pub returns : goal.returns
returns c = rw (c.room.ensures, c.len.ensures) (room_tells c.args.directory.now c.requires)
