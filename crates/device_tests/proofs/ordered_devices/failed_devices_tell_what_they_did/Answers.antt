use Rattle.std.proofs.Common.{arith}
use Rattle.device_tests.proofs.Devices.{tells_each, waits_behind, hands_first, none_but_cut}
use Rattle.device_tests.proofs.ordered_devices.failed_devices_tell_what_they_did.Goals as goal

pub returns : goal.returns
returns g c =
    let d = g.D.OrderedDev in
    let laws = g.met.D.OrderedDev in
    record {
      told = λ s pick v lt fails. tells_each (d.seen s) (d.seen (d.transferred s pick)) (laws.transfers s pick v lt).1 fails;
      behind = λ s pick v lt. waits_behind (d.seen s) (d.seen (d.transferred s pick)) (laws.transfers s pick v lt).1;
      handed = λ s answer rest v e. hands_first (d.seen s) (d.next_answer s) (d.seen (d.answered s)) (laws.answers s v).1 answer rest e;
      stops = λ s pick v failed. laws.no_transfer s pick (let none = laws.stops s v failed in omega arith);
      none_more = λ s pick answer v lt i. none_but_cut (d.seen s) (d.seen (d.persisted s pick)) (laws.persists s pick v lt).1 answer i;
    }
