use Rattle.widening.proofs.RoomSteps.{wide_already}
use Rattle.widening.proofs.laws.wide_images_stay.Goals as goal

pub returns : goal.returns
returns c = wide_already
