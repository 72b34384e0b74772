use Rattle.std.specs.Prelude.{refl}
use Rattle.order_model.proofs.Received.{epoch_of-between}
use Rattle.device_tests.proofs.Devices.{same_epoch, notes_epoch}
use Rattle.device_tests.proofs.ordered_devices.parts_have_the_epoch_of_their_command.Goals as goal

pub returns : goal.returns
returns g c =
    let d = g.D.OrderedDev in
    let laws = g.met.D.OrderedDev in
    record {
      first = λ took. refl;
      same = λ took k m le within none. same_epoch took k m le within none;
      later = λ took k b m low high is. epoch_of-between took k b m is low high;
      noted = λ s pick v lt sound. notes_epoch (d.seen s) (d.seen (d.transferred s pick)) (laws.transfers s pick v lt).1 sound;
    }
