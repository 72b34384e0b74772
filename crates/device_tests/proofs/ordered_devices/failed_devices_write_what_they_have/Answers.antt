use Rattle.device_tests.proofs.Devices.{above_none, comes_to_rest}
use Rattle.device_tests.proofs.ordered_devices.failed_devices_write_what_they_have.Goals as goal

pub returns : goal.returns
returns g c =
    let d = g.D.OrderedDev in
    let laws = g.met.D.OrderedDev in
    record {
      next = λ s place v on moved lost. above_none (d.can_persist s) (λ none. lost (laws.settles s v on none place moved));
      all = λ s v stays.
          comes_to_rest d.State d.valid d.stays_on d.seen d.can_persist d.persisted d.work_left laws.persists laws.settles laws.on
          (λ s st. (laws.stays s 0 st).1) (λ s v lt. (laws.falls s 0 v).1 lt) s v stays;
    }
