use Rattle.std.proofs.Common.{◌≡◌, ◌+◌, ◌≤◌, drop, filter, length}
use Rattle.device_epochs.specs.queue.Queue.{Waiting, eligible}
use Rattle.flog_device.specs.Device.{fits}
use Rattle.flog_device.specs.code.Helpers.{fitting}
use Rattle.flog_device.proofs.choice.count_fitting.Given as goal

abbrev pub invariant-loop-at : goal.invariant-loop-at
invariant-loop-at l = record {
  told : l.count + length (filter (λ (w : Waiting). fits l.free l.programmed w.command) (drop l.at (eligible l.queue.waiting))) ≡ length (fitting l.free l.programmed l.queue);
  few : l.count ≤ l.at;
}
