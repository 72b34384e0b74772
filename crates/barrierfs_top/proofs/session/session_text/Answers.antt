use Rattle.barrierfs_top.proofs.SessionEnds.{few_standings}
use Rattle.barrierfs_top.proofs.session.session_text.Goals as goal

pub put_session-requires-clause-threads : goal.put_session-requires-clause-threads
put_session-requires-clause-threads c = few_standings c.args.script.now c.requires.report.0 c.args.report.now c.deref.result.now c.deref.ensures.value c.requires.script c.requires.report.1
