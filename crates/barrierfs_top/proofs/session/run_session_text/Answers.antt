use Rattle.session_core.specs.Core.{core}
use Rattle.barrierfs_top.proofs.session.run_session_text.Goals as goal

pub session_text-requires-clause-report : goal.session_text-requires-clause-report
session_text-requires-clause-report c = (core c.in_ok-script.script, c.in_ok-script.ensures.ran.core_is.report)
