use Rattle.host_machine.proofs.Parts.{commit_on_part, flush_on_part, take_on_part}
use Rattle.host_machine.proofs.laws.parts.actors_step_on_their_parts.Goals as goal

pub returns-clause-commit : goal.returns-clause-commit
returns-clause-commit g c m u s full = commit_on_part m u full s

pub returns-clause-flush : goal.returns-clause-flush
returns-clause-flush g c m u s full next = flush_on_part m u full s next

pub returns-clause-take : goal.returns-clause-take
returns-clause-take g c m u s next = take_on_part m u s next
