use Rattle.volume_steps.proofs.NewInUse.{new_in_use}
use Rattle.volume_steps.proofs.laws.new_volumes_are_in_use.Goals as goal

pub returns : goal.returns
returns c g sound = new_in_use g sound (c.new_volumes_are_plain.ensures g sound)
