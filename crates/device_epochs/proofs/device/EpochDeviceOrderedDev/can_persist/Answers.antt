use Rattle.std.proofs.Common.{arith}
use Rattle.device_epochs.specs.code.Fields.{state_of}
use Rattle.device_epochs.specs.laws.BoundLaws.{steps-le}
use Rattle.device_epochs.proofs.device.EpochDeviceOrderedDev.can_persist.Goals as goal

pub overflow_cast-result : goal.overflow_cast-result
overflow_cast-result c =
    let n = steps-le (state_of c.self.inside) c.self.invariant.valid in
    let few = c.self.invariant.few in
    omega (arith, n)
