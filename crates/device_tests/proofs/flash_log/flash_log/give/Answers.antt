use Rattle.std.proofs.Common.{◌≡◌, rules, IsOk}
use Rattle.flog_device.specs.Device.{received}
use Rattle.flog_device.proofs.Moves.{on_ok}
use Rattle.device_tests.proofs.FlashLogLemmas.Asked.{taken_next}
use Rattle.device_tests.proofs.flash_log.flash_log.give.Goals as goal

pub returns : goal.returns
returns g c =
    let is : IsOk c.receive.result = search rules in
    taken_next c.args.device.now c.receive.new.self c.args.from c.args.to c.args.c c.requires.taken c.requires.next
    (on_ok (c.receive.new.self ≡ received c.args.device.now c.args.c) c.receive.result is c.receive.ensures.ok)
