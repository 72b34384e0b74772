use Rattle.volume_model.proofs.EditingLemmas.FreedSteps.{told_freed, told_revoked, told_dropped}
use Rattle.volume_model.proofs.editing.laws.cut_zones_are_told.Goals as goal

pub returns : goal.returns
returns c = record { freed = told_freed; revoked = told_revoked; dropped = told_dropped }
