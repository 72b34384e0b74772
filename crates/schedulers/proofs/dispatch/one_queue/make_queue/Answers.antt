use Rattle.std.proofs.Common.{rules}
use Rattle.schedulers.proofs.DispatchLemmas.Relays.{begins, splits}
use Rattle.schedulers.proofs.dispatch.one_queue.make_queue.Goals as goal

pub ruled-requires-clause-rule : goal.ruled-requires-clause-rule
ruled-requires-clause-rule g c = begins

pub another-consumer-requires-clause-rule : goal.another-consumer-requires-clause-rule
another-consumer-requires-clause-rule g c = splits _ _ (search rules) (search rules)
