use Rattle.volume_model.specs.laws.Holes.{rising_same, rising_none}
use Rattle.volume_model.proofs.file_zones.FileZones.new.Goals as goal

pub invariant_of-result : goal.invariant_of-result
invariant_of-result c = rising_same _ _ c.new.ensures.items rising_none
