use Rattle.store_core.proofs.Summaries.{held-pairs}
use Rattle.store_core.proofs.running.held_on.Goals as goal

pub returns-clause-pairs : goal.returns-clause-pairs
returns-clause-pairs c = held-pairs c.read_log.result c.deref.result.now c.read_log.ensures
