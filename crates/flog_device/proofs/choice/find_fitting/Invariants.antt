use Rattle.std.proofs.Common.{◌≡◌, drop, filter, slice_get}
use Rattle.device_epochs.specs.queue.Queue.{Waiting, eligible}
use Rattle.flog_device.specs.Device.{fits}
use Rattle.flog_device.specs.code.Helpers.{fitting}
use Rattle.flog_device.proofs.choice.find_fitting.Given as goal

abbrev pub invariant-loop-at : goal.invariant-loop-at
invariant-loop-at l =
    slice_get (fitting l.free l.programmed l.queue) l.pick ≡ slice_get (filter (λ (w : Waiting). fits l.free l.programmed w.command) (drop l.at (eligible l.queue.waiting))) l.left
