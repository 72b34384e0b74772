use Rattle.device_tests.specs.flash_log.Asked.{HasTaken}
use Rattle.device_tests.proofs.flash_log.flash_log.give_many.Given as goal

abbrev pub invariant-loop-id : goal.invariant-loop-id
invariant-loop-id g l = HasTaken l.device l.id
