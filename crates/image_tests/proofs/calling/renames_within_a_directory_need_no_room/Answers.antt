use Rattle.image_tests.proofs.CallRules.{needs_no_room}
use Rattle.image_tests.proofs.calling.renames_within_a_directory_need_no_room.Goals as goal

pub returns : goal.returns
returns c = needs_no_room
