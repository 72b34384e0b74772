use Rattle.volume_model.specs.laws.Edits.{untouched, inode_here, inode_elsewhere, slot_here, slot_elsewhere}
use Rattle.volume_model.proofs.laws.writes_are_read.Goals as goal

pub returns : goal.returns
returns c = record { untouched = untouched; inode = inode_here; other_inode = inode_elsewhere; slot = λ g blocks zone at s width. slot_here g width blocks zone at s; other_slot = λ g blocks zone at other place s width. slot_elsewhere g width blocks zone at other place s }
