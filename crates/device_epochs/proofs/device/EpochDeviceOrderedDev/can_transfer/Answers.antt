use Rattle.std.proofs.Common.{length, sym, ap, ◌∙◌}
use Rattle.device_epochs.specs.queue.Queue.{eligible}
use Rattle.device_epochs.specs.Device.{DeviceState}
use Rattle.device_epochs.proofs.Moves.{transferable_free, transferable_held}
use Rattle.device_epochs.proofs.device.EpochDeviceOrderedDev.can_transfer.Goals as goal

pub returns-then-is_held : goal.returns-then-is_held
returns-then-is_held c =
    sym (ap length (transferable_held c.args.self.now c.is_held.ensures.valid (sym c.if-is_held.ensures.value)))

pub returns : goal.returns
returns c =
    let d = c.self.inside in
    c.eligible.ensures
    ∙ ap (λ (s : DeviceState). length (eligible s.queue.waiting)) c.self.view_is
    ∙ sym (ap length (transferable_free c.args.self.now c.is_held.ensures.valid (sym c.if-is_held.ensures.value)))
