use Rattle.widening.proofs.Causes.{causes}
use Rattle.widening.proofs.laws.no_room_has_two_causes.Goals as goal

pub returns : goal.returns
returns c = causes
