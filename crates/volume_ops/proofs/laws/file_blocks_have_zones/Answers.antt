use Rattle.volume_ops.proofs.BlockPlaces.{mapped, within, one_place, outside, keeps_zone}
use Rattle.volume_ops.proofs.laws.file_blocks_have_zones.Goals as goal

pub returns : goal.returns
returns c = record { bytes = mapped; within = within; one_place = one_place; outside = outside; kept = keeps_zone }
