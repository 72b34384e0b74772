use Rattle.std.proofs.Common.{arith}
use Rattle.flog_device.specs.laws.BoundLaws.{pages-le}
use Rattle.flog_device.specs.code.Fields.{state_of}
use Rattle.flog_device.proofs.device.FlogDevice.free_places.Goals as goal

pub overflow_add-in_use : goal.overflow_add-in_use
overflow_add-in_use c =
    let n = pages-le (state_of c.self.inside) c.self.invariant.valid in
    let few = c.self.invariant.few in
    let len = c.len.ensures in
    omega (arith, n, few, len)
