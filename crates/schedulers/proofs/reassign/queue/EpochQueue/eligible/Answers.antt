use Rattle.std.proofs.Common.{arith}
use Rattle.schedulers.proofs.reassign.queue.EpochQueue.eligible.Goals as goal

pub overflow_cast-result : goal.overflow_cast-result
overflow_cast-result c =
    let h = c.self.invariant in
    omega (arith, h.small, h.few, c.count_eligible.ensures.few, c.self.inside.waiting.ok.0)
