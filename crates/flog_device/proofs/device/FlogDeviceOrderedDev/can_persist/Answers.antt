use Rattle.std.proofs.Common.{arith}
use Rattle.flog_device.specs.code.Fields.{state_of}
use Rattle.flog_device.specs.laws.BoundLaws.{pages-le}
use Rattle.flog_device.proofs.device.FlogDeviceOrderedDev.can_persist.Goals as goal

pub overflow_cast-result : goal.overflow_cast-result
overflow_cast-result c =
    let n = pages-le (state_of c.self.inside) c.self.invariant.valid in
    let few = c.self.invariant.few in
    let count = c.count_writes.ensures.few in
    omega (arith, n, few, count)
