use Rattle.device_tests.proofs.FlashLogLemmas.Asked.{taken_next}
use Rattle.device_tests.proofs.flash_log.flash_log.lend.Goals as goal

pub returns : goal.returns
returns g c = taken_next c.args.device.now c.take_in.new.self c.args.from c.args.to c.args.c.now c.requires.taken c.requires.next c.take_in.ensures
