use Rattle.std.proofs.Common.{ap}
use Rattle.schedulers.proofs.DispatchLemmas.Relays.{takes_one, told_consumer}
use Rattle.schedulers.proofs.dispatch.taking.TakeEndInlet.take.Goals as goal

pub pop_as-requires-clause-rule : goal.pop_as-requires-clause-rule
pop_as-requires-clause-rule g c =
    let may = ap (λ v. v.takes) c.self.invariant.2 in (takes_one _ _ may, told_consumer _ _ may)
