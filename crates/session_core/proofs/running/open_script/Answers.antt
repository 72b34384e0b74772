use Rattle.std.proofs.Common.{arith}
use Rattle.session_core.proofs.Made.{programs_short}
use Rattle.session_core.proofs.running.open_script.Goals as goal

pub open_session-requires-clause-short : goal.open_session-requires-clause-short
open_session-requires-clause-short c = λ i. let low = programs_short c.args.script.now.programs 10000 c.requires.few_calls i in omega (arith, low)
