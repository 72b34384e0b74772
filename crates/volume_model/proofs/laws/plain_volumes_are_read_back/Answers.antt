use Rattle.volume_model.proofs.Nodes.{faultless}
use Rattle.volume_model.proofs.Images.{read_back, image_plain, zones_met}
use Rattle.volume_model.proofs.laws.plain_volumes_are_read_back.Goals as goal

pub returns : goal.returns
returns c = record { no_fault = faultless; tree = read_back; plain = image_plain; zones = zones_met }
