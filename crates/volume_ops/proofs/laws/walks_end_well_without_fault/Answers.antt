use Rattle.volume_ops.proofs.WalkTests.{walked_faultless, faultless_walked, walked_used}
use Rattle.volume_ops.proofs.laws.walks_end_well_without_fault.Goals as goal

pub returns : goal.returns
returns c = record { no_fault = walked_faultless; ends_well = faultless_walked; zones = walked_used }
