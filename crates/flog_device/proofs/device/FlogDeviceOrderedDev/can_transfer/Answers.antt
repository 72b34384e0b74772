use Rattle.flog_device.proofs.Moves.{orderly_from}
use Rattle.flog_device.proofs.device.FlogDeviceOrderedDev.can_transfer.Goals as goal

pub count_fitting-requires : goal.count_fitting-requires
count_fitting-requires c = orderly_from c.self.inside c.args.self.now c.self.invariant c.self.view_is c.if-has_stopped.ensures
