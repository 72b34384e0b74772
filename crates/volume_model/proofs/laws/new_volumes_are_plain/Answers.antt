use Rattle.volume_model.proofs.NewVolumes.{new_plain}
use Rattle.volume_model.proofs.laws.new_volumes_are_plain.Goals as goal

pub returns : goal.returns
returns c = new_plain
