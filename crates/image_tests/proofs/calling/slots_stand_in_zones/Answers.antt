use Rattle.image_tests.proofs.SlotZones.{in_short, in_long}
use Rattle.image_tests.proofs.calling.slots_stand_in_zones.Goals as goal

pub returns : goal.returns
returns c = record { short = in_short; long = in_long }
