use Rattle.std.proofs.Common.{ap}
use Rattle.schedulers.proofs.DispatchLemmas.Relays.{sends, told_producer}
use Rattle.schedulers.proofs.dispatch.putting.PutEndOutlet.put.Goals as goal

pub push_as-requires-clause-rule : goal.push_as-requires-clause-rule
push_as-requires-clause-rule g c =
    let may = ap (λ v. v.puts) c.self.invariant.2 in (sends _ _ _ _ may, told_producer _ _ may)
