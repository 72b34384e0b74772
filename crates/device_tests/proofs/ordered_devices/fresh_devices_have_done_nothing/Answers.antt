use Rattle.device_tests.proofs.Devices.{is_on, is_sound, is_silent, no_origin}
use Rattle.device_tests.proofs.ordered_devices.fresh_devices_have_done_nothing.Goals as goal

pub returns : goal.returns
returns g c =
    let d = g.D.OrderedDev in
    let laws = g.met.D.OrderedDev in
    record {
      on = λ image s v fresh. is_on image (d.seen s) fresh (laws.power_cut s v).0;
      sound = λ image s v fresh. is_sound image (d.seen s) fresh (laws.failure s v);
      silent = λ image s v fresh. is_silent image (d.seen s) fresh (laws.completion s v) (laws.power_cut s v).0 (laws.failure s v);
      medium = λ image s v fresh. fresh.surface;
      origins = λ image s block origin v fresh e. no_origin image (d.seen s) fresh (laws.surface s v) block origin e;
    }
