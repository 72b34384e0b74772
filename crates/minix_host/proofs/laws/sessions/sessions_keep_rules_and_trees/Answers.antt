use Rattle.minix_host.proofs.SessionsKept.{session_runs}
use Rattle.minix_host.proofs.laws.sessions.sessions_keep_rules_and_trees.Goals as goal

pub returns : goal.returns
returns c = record { kept = λ s v ring limit programs events written opened journal. session_runs s v ring limit programs written opened journal events }
