use Rattle.std.proofs.Common.{ap, ◌∙◌}
use Rattle.order_model.specs.Device.{origin_ids}
use Rattle.device_epochs.specs.Device.{DeviceState}
use Rattle.device_epochs.proofs.device.EpochDeviceOrderedDev.cut.Goals as goal

pub returns-clause-origins : goal.returns-clause-origins
returns-clause-origins c =
    c.new.ensures ∙ c.read_ids-ids.ensures ∙ ap (λ (s : DeviceState). origin_ids s.took s.origins) c.self.view_is
