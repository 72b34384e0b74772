use Rattle.std.proofs.Common.{subst}
use Rattle.session_core.specs.Core.{ArePlaced}
use Rattle.barrierfs_top.proofs.session.noted.Goals as goal

pub returns-clause-placed : goal.returns-clause-placed
returns-clause-placed c = subst (λ programs. ArePlaced programs c.history.result.now) c.requires.1.programs c.history.ensures.placed
