-- The law from the host's requests to the medium, by the laws of the device.
use Rattle.order_model.proofs.OrderToTheMedium.{order_closed, keeps_flushed}
use Rattle.order_model.proofs.order_law.keeps_order_to_the_medium.Goals as goal

pub returns-clause-closed : goal.returns-clause-closed
returns-clause-closed g c submitted s ids carries fits =
    let device = g.met.D.OrderedDev in
    let v = c.blocks-2.ensures.valid in
    order_closed submitted s _ (record { ids = ids; fits = fits; carries = carries; surface = device.surface _ v }) (device.epoch_order _ v)

pub returns-clause-flushed : goal.returns-clause-flushed
returns-clause-flushed g c submitted s ids carries fits =
    let device = g.met.D.OrderedDev in
    let v = c.blocks-2.ensures.valid in
    keeps_flushed submitted s _ (record { ids = ids; fits = fits; carries = carries; surface = device.surface _ v }) (device.flush _ v) (device.completion _ v)
