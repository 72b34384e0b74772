-- Inodes and zones.
use Rattle.tree_model.proofs.Outcomes.{row_done, row_no_inode, row_no_space, room_kept, slot_needs}
use Rattle.tree_model.proofs.Zones.{needs_none}
use Rattle.tree_model.proofs.call_laws.calls_stay_within_room.Goals as goal

pub returns : goal.returns
returns c = record { done = row_done; no_inode = row_no_inode; no_space = row_no_space; none = needs_none; kept = room_kept; slot = slot_needs }
