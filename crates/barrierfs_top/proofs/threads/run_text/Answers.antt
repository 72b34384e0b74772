use Rattle.barrierfs_top.proofs.threads.run_text.Goals as goal

pub session_text-requires-clause-report : goal.session_text-requires-clause-report
session_text-requires-clause-report g c = (c.in_ok-script.ensures.ran.is.end, c.in_ok-script.ensures.ran.is.report)
