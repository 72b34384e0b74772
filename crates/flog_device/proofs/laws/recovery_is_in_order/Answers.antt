use Rattle.flog_device.specs.laws.OrderLaws.{log_order_law}
use Rattle.flog_device.proofs.laws.recovery_is_in_order.Goals as goal

pub returns : goal.returns
returns c = log_order_law
