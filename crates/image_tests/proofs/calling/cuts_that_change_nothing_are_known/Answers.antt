use Rattle.image_tests.proofs.CallRules.{still_cut, known_cut}
use Rattle.image_tests.proofs.calling.cuts_that_change_nothing_are_known.Goals as goal

pub returns : goal.returns
returns c = record { still = still_cut; known = known_cut }
