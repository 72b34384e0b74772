use Rattle.session_report.proofs.lines.+calls_before.Given as goal

abbrev pub decreases-calls_before : goal.decreases-calls_before
decreases-calls_before l = l.threads
