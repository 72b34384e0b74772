use Rattle.volume_model.specs.laws.Zones.{zones_kept}
use Rattle.volume_model.specs.laws.Written.{stored_kept}
use Rattle.volume_model.proofs.laws.nodes_stay.Goals as goal

pub returns : goal.returns
returns c = record { zones = zones_kept; node = stored_kept }
